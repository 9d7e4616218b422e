pub mod ReadingLemmas
pub mod WordLemmas
pub mod NumberLemmas
pub mod CommandLemmas
pub mod KeptLemmas
