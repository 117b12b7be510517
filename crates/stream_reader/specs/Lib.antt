pub mod Advance
pub mod Pushing
pub mod Reader
