pub mod Command
pub mod Demo
pub mod Finished
pub mod Summary
