pub mod NewestLaws
pub mod PartLaws
