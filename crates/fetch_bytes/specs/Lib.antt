pub mod Told
pub mod Request
pub mod Calls
