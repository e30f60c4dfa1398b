pub mod MonthLaws
