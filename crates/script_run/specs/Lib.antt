pub mod Reply
pub mod Script
