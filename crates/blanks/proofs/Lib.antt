pub mod Blocks
pub mod Bare
pub mod Headers
