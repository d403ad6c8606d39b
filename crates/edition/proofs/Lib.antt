pub mod SideBySide
pub mod Deciding
