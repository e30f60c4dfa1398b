pub mod TableLaws
pub mod TwiceLaws
pub mod CarriedLaws
pub mod NotedLaws
pub mod AnswerLaws
