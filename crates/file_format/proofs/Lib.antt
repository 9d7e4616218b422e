pub mod NumberLemmas
pub mod FormatLemmas
