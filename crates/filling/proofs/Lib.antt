pub mod Fronts
pub mod Blanks
pub mod Patterns
pub mod Readiness
