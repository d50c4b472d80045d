pub mod Fits
pub mod Content
pub mod Plan
pub mod Apply
