pub mod AccountWords
pub mod Layout
