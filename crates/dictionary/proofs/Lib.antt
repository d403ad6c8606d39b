pub mod FirstLine
pub mod Walking
pub mod Cutting
pub mod Gathering
pub mod Rounds
pub mod Widths
pub mod Placing
