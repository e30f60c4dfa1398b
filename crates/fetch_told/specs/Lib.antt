pub mod Told
pub mod Clamp
