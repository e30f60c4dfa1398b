pub mod Bytes
pub mod Choice
pub mod Numbers
pub mod Parts
