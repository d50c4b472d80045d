pub mod View
pub mod Deed
pub mod Holds
pub mod History
