pub mod Results
pub mod State
pub mod JoiningState
