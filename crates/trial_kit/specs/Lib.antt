pub mod Counts
pub mod Random
