pub mod Shown
pub mod Cases
