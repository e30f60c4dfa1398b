pub mod RangeLaws
pub mod KeptLaws
pub mod CountLaws
pub mod GapLaws
pub mod HistoryLaws
pub mod WrongLaws
