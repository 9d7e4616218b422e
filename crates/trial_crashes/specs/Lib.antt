pub mod Known
pub mod Tally
