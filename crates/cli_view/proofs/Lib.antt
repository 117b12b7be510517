pub mod AccountsAtLemmas
pub mod BalanceLemmas
pub mod ReadLemmas
pub mod StatementLemmas
