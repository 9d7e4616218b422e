pub mod Fresh
pub mod Opening
pub mod Steps
