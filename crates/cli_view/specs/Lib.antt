pub mod AccountsAt
pub mod Balances
pub mod OneAccount
pub mod Reports
