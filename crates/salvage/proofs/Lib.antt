pub mod Forming
pub mod Replaying
pub mod Along
pub mod Whole
