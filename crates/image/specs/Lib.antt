pub mod Addressed
pub mod Fit
