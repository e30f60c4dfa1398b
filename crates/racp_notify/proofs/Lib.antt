pub mod SegmentLaws
pub mod NotifyLaws
pub mod ReplyLaws
