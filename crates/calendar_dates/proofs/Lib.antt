pub mod DayLaws
pub mod DateLaws
pub mod LostLaws
