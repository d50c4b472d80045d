pub mod Keeping
pub mod Call
pub mod Days
pub mod Claims
