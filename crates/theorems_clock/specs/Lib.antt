pub mod Theorems
pub mod Cases
