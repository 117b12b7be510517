pub mod Exposing
pub mod Inserted
pub mod OneStep
pub mod SameWorkers
pub mod TotalLemmas
pub mod TwoCalls
