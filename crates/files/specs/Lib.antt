pub mod Guard
pub mod Effect
pub mod Plain
