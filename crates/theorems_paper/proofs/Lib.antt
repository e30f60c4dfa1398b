pub mod TwelveLaws
pub mod ShutLaws
pub mod UpdateLaws
pub mod AccessLaws
pub mod FaultLaws
