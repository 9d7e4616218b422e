pub mod ContentLemmas
pub mod RoundsLemmas
