pub mod FaultLaws
pub mod BeginLaws
pub mod UpdateLaws
pub mod ReplyLaws
