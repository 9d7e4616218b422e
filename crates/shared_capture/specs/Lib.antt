pub mod Methods
pub mod Rounds
pub mod Table
pub mod Start
pub mod Steps
pub mod Seats
pub mod States
pub mod Joined
pub mod SignalWord
-- inside: for private functions only
pub mod Rule
pub mod Meeting
