pub mod Place
pub mod Inode
pub mod Entry
pub mod Link
pub mod Sound
pub mod Test
pub mod Counted
