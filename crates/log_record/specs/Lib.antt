pub mod LogList
pub mod Reading
pub mod Spelling
