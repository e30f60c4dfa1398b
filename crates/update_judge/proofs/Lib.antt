pub mod ProposalLaws
pub mod GradeLaws
pub mod GroundLaws
