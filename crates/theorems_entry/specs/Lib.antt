pub mod Theorems
pub mod Cases
pub mod Lengths
