pub mod Tests
pub mod Filling
pub mod PartLaws
pub mod NumberLaws
pub mod SameLaws
