pub mod NewWorldLemmas
pub mod WordsLemmas
pub mod ForwardLemmas
pub mod LostLemmas
pub mod EndingLemmas
pub mod NewWorldFilesLemmas
pub mod CreateLemmas
