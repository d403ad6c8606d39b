pub mod Padded
pub mod Blocks
pub mod Entries
pub mod Groups
pub mod Parts
pub mod PutTogether
