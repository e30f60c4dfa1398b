pub mod Beast
pub mod Bounds
pub mod Theorems
pub mod Cases
