pub mod BitLaws
pub mod RunLaws
