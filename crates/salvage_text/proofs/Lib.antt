pub mod LineLaws
pub mod ToldLaws
