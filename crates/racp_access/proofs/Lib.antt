pub mod FoundLaws
pub mod LeftLaws
pub mod AccessLaws
pub mod ReplyLaws
