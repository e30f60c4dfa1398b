pub mod Value
pub mod Theorems
pub mod Cases
