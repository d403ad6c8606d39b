pub mod Shown
pub mod Surveys
pub mod Steps
pub mod Found
pub mod Seen
pub mod Walks
pub mod Placed
