pub mod MapLaws
pub mod ReceivedLaws
