pub mod Answer
pub mod Counted
