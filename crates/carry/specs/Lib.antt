pub mod Stamp
pub mod Cases
pub mod Theorems
