pub mod LatencyLemmas
