pub mod Reply
pub mod Rows
