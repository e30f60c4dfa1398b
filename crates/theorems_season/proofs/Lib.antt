pub mod StepLaws
pub mod TotalLaws
pub mod EntryLaws
pub mod RunLaws
