pub mod Balances
pub mod Generator
pub mod Lines
pub mod Reading
pub mod Script
pub mod StoredJob
