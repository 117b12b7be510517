pub mod Hearing
pub mod Inserting
pub mod Joining
pub mod Leading
pub mod Members
pub mod Releasing
