pub mod Lines
pub mod Ask
