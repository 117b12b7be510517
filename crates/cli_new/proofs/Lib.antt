pub mod AnswerLemmas
pub mod CreationLemmas
