pub mod Taken
pub mod Content
pub mod Rounds
