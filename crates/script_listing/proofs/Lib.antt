pub mod TextLaws
pub mod PlaceLaws
pub mod LengthLaws
