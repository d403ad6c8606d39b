pub mod Heads
pub mod Placed
pub mod Onward
pub mod Begun
pub mod Spots
