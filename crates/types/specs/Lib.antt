pub mod Meanings
pub mod Kinds
pub mod Patterns
pub mod Answers
pub mod Joining
