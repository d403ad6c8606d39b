pub mod Runs
mod Examples
