pub mod Phases
pub mod Tasks
