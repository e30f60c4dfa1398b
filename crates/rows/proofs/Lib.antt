pub mod RowLaws
pub mod ReplyLaws
