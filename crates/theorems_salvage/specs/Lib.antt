pub mod Result
pub mod Noted
pub mod Carried
pub mod Answers
pub mod Cases
pub mod Wrong
