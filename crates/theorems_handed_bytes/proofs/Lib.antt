pub mod EntryLaws
pub mod CourseLaws
pub mod OnceLaws
pub mod CaseLaws
