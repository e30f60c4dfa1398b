pub mod Fetched
pub mod FetchedAt
pub mod CasesAt
