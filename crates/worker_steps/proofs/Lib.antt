mod Parts
mod Below
mod Images
mod Playing
mod Written
mod Meeting
mod Joined
mod Ended
pub mod Staying
pub mod Keeping
