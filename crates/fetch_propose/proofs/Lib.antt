pub mod SearchLaws
pub mod ProposeLaws
