pub mod Received
pub mod Demand
pub mod Made
pub mod Claim
pub mod Answered
