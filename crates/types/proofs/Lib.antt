pub mod Held
pub mod Said
