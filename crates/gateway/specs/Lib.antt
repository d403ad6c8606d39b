pub mod Answers
pub mod Finding
