pub mod KeepLaws
pub mod CopyLaws
pub mod CopyAtLaws
