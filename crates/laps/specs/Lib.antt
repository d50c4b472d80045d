pub mod Times
pub mod Walk
pub mod Reported
pub mod Call
pub mod Claim
