pub mod Reader
pub mod Twelve
pub mod Wrong
pub mod Listing
