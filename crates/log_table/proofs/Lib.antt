pub mod Hired
pub mod Stepping
