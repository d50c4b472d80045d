pub mod Letters
pub mod Pieces
pub mod Number
pub mod Hex
pub mod Put
