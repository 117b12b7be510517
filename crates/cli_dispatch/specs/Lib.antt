pub mod Alone
pub mod Reports
