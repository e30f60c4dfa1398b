pub mod Runs
pub mod Pass
pub mod Theorems
