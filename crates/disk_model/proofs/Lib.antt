pub mod BytesLemmas
pub mod OverwrittenLemmas
pub mod OutcomeLemmas
pub mod ModelFileLemmas
pub mod TornLemmas
pub mod LeavingLemmas
pub mod FaultLemmas
pub mod FilledLemmas
