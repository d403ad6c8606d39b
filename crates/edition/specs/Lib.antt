pub mod Same
pub mod Earlier
