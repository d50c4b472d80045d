pub mod RunLaws
pub mod FinishLaws
pub mod PrintLaws
