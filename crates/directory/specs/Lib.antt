pub mod Slot
pub mod Fits
pub mod Test
