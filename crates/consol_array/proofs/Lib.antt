pub mod Freed
pub mod Heards
pub mod Inserts
pub mod Joins
pub mod Keeping
pub mod Places
pub mod Rounds
pub mod Told
