pub mod StartLaws
pub mod HistoryLaws
