pub mod FigureLaws
pub mod TableLaws
