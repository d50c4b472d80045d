pub mod Octets
pub mod Flags
