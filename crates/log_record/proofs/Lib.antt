pub mod BoundLemmas
pub mod Fronts
pub mod LogListLemmas
pub mod SpellingLemmas
pub mod TextLemmas
