pub mod ObeyLaws
pub mod AnswerLaws
pub mod JoinedLaws
