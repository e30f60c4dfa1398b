pub mod Newest
pub mod Theorems
