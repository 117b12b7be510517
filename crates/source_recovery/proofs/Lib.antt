pub mod AheadLemmas
pub mod FaultLemmas
pub mod GrowthLemmas
pub mod JudgedLemmas
pub mod ReadingLemmas
pub mod TakerLemmas
pub mod WindowLemmas
