pub mod History
pub mod Standing
pub mod Past
pub mod State
pub mod Starting
pub mod Moving
pub mod Exact
pub mod Facts
pub mod Headline
pub mod Written
pub mod Plain
pub mod Repeating
-- inside: for private functions only
pub mod Laws
pub mod Stepped
