pub mod ResultLaws
pub mod CallLaws
pub mod ValueLaws
pub mod StartLaws
