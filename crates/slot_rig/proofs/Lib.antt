pub mod Gathers
pub mod Hears
pub mod Joins
pub mod Leads
pub mod Releases
pub mod Steps
