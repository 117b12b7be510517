pub mod ReaderLemmas
pub mod RecordLemmas
pub mod TakingLemmas
pub mod UnitLemmas
