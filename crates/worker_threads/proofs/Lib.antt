mod Hearing
mod Keeping
mod Opening
mod Sends
pub mod Stopping
