pub mod Decide
pub mod Accept
pub mod Response
