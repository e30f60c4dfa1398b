pub mod IntLaws
pub mod CarryLaws
pub mod NewestLaws
