pub mod Report
pub mod Kinds
