pub mod RuleLaws
pub mod EventLaws
