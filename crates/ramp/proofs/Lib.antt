pub mod AgeLaws
pub mod BeastLaws
