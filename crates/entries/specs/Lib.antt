pub mod Room
pub mod Plan
pub mod Apply
