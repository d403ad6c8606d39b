pub mod Turning
pub mod Going
pub mod Made
