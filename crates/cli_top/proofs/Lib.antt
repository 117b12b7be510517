pub mod AnsweredLemmas
pub mod CompletenessLemmas
pub mod DemoCompleteness
pub mod DemoTold
pub mod Faultless
pub mod FollowCompleteness
pub mod RunCompleteness
