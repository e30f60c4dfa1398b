pub mod PromiseLaws
pub mod NoImageLaws
pub mod ReplyLengths
pub mod NoticeLengths
pub mod LengthLaws
