pub mod JoiningLaws
pub mod ReadingLaws
