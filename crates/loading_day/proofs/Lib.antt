pub mod PageLaws
pub mod PrintedLaws
pub mod WrittenLaws
