pub mod ArraysLemmas
