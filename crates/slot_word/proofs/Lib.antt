pub mod AccountWordLemmas
pub mod SlotWordLemmas
