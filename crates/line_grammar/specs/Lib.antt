pub mod Reading
pub mod Command
pub mod Kept
-- inside: for private functions only
pub mod Number
pub mod Word
