pub mod JoinLaws
pub mod TabletLaws
