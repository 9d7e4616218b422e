pub mod Zigzag
pub mod View
