pub mod NoteLaws
pub mod CallLaws
pub mod OverLaws
pub mod ReturnLaws
