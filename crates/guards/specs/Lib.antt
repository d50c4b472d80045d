pub mod Fit
pub mod Handed
