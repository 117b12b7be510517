pub mod OneTurn
pub mod StopWord
pub mod Telling
