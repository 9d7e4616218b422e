pub mod Parts
pub mod Replay
pub mod Salvage
