pub mod Gate
pub mod Number
pub mod Slot
pub mod Format
