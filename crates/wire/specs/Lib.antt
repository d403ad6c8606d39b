pub mod Bytes
pub mod Numbers
pub mod Refusals
pub mod Streams
pub mod Written
