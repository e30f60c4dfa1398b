pub mod Endings
pub mod Courses
pub mod Once
pub mod Cases
