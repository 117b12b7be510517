pub mod OpenedAccounts
pub mod ReadyLemmas
pub mod RunAnswerLemmas
