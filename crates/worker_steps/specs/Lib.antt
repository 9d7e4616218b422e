pub mod Stopped
pub mod Begun
pub mod Kept
pub mod Running
