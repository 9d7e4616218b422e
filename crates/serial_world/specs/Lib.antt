pub mod Opened
pub mod Runs
