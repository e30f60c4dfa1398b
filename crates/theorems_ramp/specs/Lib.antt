pub mod OneBeast
pub mod OneBeastAt
pub mod Cases
pub mod Wrong
