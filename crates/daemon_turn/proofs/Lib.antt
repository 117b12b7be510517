pub mod BatchLemmas
pub mod HeadLemmas
pub mod SameLemmas
pub mod ToldLemmas
pub mod TurnLemmas
