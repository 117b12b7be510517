pub mod Entering
pub mod Entries
pub mod KeptAccount
pub mod Marks
pub mod Plain
pub mod Rows
pub mod ViewedAccounts
