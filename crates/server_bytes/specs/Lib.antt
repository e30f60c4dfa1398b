pub mod Results
pub mod Events
pub mod Calls
pub mod ValuesRead
pub mod Start
