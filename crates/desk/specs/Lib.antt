pub mod Sizes
pub mod Desk
pub mod Next
