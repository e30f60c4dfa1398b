pub mod JoiningLaws
pub mod RoundTrip
