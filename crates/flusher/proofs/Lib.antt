pub mod Flushes
pub mod Keeps
pub mod ReadUp
