pub mod FitLaws
pub mod GuardLaws
