pub mod EndLines
pub mod Telling
