pub mod Counting
pub mod Spots
pub mod Finding
