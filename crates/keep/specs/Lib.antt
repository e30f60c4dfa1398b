pub mod Keep
pub mod Cases
pub mod Theorems
