pub mod Bounds
pub mod Figures
