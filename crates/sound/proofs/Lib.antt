pub mod FactLaws
pub mod PlaceLaws
pub mod SoundLaws
