pub mod Differences
pub mod WentLaws
pub mod SameLaws
pub mod StampLaws
pub mod WriteLaws
pub mod OneLaws
pub mod WrongLaws
