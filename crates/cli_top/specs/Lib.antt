pub mod Answered
pub mod Asks
pub mod Commands
