pub mod Reader
pub mod Play
