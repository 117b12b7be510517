pub mod Folders
pub mod Interruption
