pub mod Tally
pub mod Wanted
