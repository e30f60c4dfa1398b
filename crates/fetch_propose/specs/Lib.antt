pub mod Propose
pub mod Search
