pub mod Answers
pub mod State
pub mod Obeys
pub mod Events
