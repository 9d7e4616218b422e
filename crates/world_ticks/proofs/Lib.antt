pub mod PerformsLemmas
pub mod AfterLemmas
