pub mod NumberedLaws
pub mod KeepLaws
