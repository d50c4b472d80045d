pub mod Block
pub mod Free
pub mod Fits
pub mod Map
pub mod Gives
