pub mod AskingLemmas
pub mod FrontLemmas
pub mod ImageLemmas
