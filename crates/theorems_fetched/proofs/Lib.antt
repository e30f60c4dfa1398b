pub mod ProposalLaws
pub mod TakenLaws
pub mod FetchedLaws
pub mod FetchedAtLaws
