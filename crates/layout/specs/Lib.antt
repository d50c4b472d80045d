pub mod Sizes
pub mod Header
pub mod Inode
pub mod Fits
