pub mod HandingLemmas
pub mod NumberedLemmas
