pub mod KeptLaws
pub mod NamingLaws
pub mod StepTurns
pub mod TurnLaws
