pub mod ValueLaws
pub mod ReplyLaws
