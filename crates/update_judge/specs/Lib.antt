pub mod Proposal
pub mod Grades
pub mod Grounds
