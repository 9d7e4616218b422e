pub mod FormatLemmas
pub mod LookLemmas
pub mod LeftLemmas
