pub mod Fault
pub mod Start
pub mod TimeUpdate
