pub mod PartLaws
pub mod NumLaws
pub mod WordLaws
pub mod ZeroLaws
pub mod FlagLaws
pub mod OverlayLaws
pub mod ListLaws
