pub mod Image
pub mod Reading
pub mod ImageRead
pub mod Taken
pub mod Images
pub mod Progress
pub mod View
pub mod Keeper
pub mod Files
pub mod Steps
pub mod WordsImage
-- inside: for private functions only
pub mod Calls
