pub mod Report
pub mod Access
