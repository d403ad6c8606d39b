pub mod Places
pub mod Shown
pub mod Spots
pub mod Walks
