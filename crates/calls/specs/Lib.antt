pub mod Changes
pub mod Calls
pub mod Runs
pub mod Laws
pub mod Meant
