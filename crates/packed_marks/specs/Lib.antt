pub mod Bits
pub mod Marks
