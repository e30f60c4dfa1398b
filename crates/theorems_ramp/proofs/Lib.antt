pub mod BeastLaws
pub mod ByteLaws
pub mod WrongLaws
