pub mod LineLaws
pub mod AskLaws
