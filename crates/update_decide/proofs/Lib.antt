pub mod DecideLaws
pub mod AcceptLaws
pub mod ResponseLaws
