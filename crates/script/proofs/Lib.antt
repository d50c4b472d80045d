pub mod ScriptLaws
pub mod TurnLaws
