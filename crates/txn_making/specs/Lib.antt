pub mod Endings
pub mod Holdings
pub mod Inserts
pub mod Legs
