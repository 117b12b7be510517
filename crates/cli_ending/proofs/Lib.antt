pub mod ConclusionLemmas
