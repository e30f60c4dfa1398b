pub mod Stamps
pub mod Cases
pub mod Wrong
