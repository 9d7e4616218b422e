pub mod Carried
pub mod Faults
pub mod Made
pub mod NewWorld
pub mod Recovered
