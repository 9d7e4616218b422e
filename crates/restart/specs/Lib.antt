pub mod InStep
pub mod Rounds
pub mod Start
