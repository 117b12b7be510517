pub mod Calls
pub mod Underway
