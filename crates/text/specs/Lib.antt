pub mod Laid
pub mod Line
