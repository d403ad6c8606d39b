pub mod Values
pub mod Fronts
