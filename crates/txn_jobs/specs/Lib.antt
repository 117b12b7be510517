pub mod Accounts
pub mod Places
pub mod Rows
