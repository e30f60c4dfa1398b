pub mod SlotLaws
pub mod OrderLaws
pub mod PassLaws
pub mod RunLaws
pub mod KeptLaws
