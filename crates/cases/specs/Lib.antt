pub mod Worlds
pub mod Cases
