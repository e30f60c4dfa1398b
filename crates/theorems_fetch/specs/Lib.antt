pub mod History
pub mod Limit
pub mod Cases
pub mod Wrong
