pub mod LineLemmas
pub mod TextLemmas
pub mod WordsLemmas
pub mod LeadsLemmas
pub mod ScriptLemmas
pub mod ProgressLemmas
