pub mod Accepting
pub mod Readings
pub mod Holding
pub mod Spots
pub mod Walked
pub mod Spotting
pub mod Templates
