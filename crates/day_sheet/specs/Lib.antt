pub mod Sheet
pub mod Theorems
