pub mod Nodes
pub mod Roots
pub mod Rows
pub mod Searches
pub mod Values
