pub mod Refusal
pub mod Action
pub mod World
pub mod Effect
