pub mod RangeLaws
pub mod BitLaws
