pub mod AttachedLemmas
pub mod FaultsTold
pub mod FindingLemmas
pub mod GenesisLemmas
pub mod OpeningLemmas
pub mod SourceLemmas
pub mod ToldLemmas
