pub mod Request
pub mod Cases
