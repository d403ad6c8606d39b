pub mod Knowing
pub mod Listing
