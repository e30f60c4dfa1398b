pub mod Att
pub mod Dtcp
pub mod Racp
pub mod Response
