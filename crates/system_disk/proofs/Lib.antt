pub mod Folders
pub mod Untold
