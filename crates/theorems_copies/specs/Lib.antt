pub mod Copies
pub mod CopiesAt
pub mod Cases
pub mod CasesAt
