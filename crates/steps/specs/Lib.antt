pub mod Line
pub mod Text
pub mod Played
pub mod Script
-- inside: for private functions only
pub mod OpenCore
pub mod Progress
