pub mod Blocks
pub mod Frames
pub mod Messages
pub mod Lookup
pub mod Spots
pub mod Walks
pub mod Fronts
pub mod Laws
