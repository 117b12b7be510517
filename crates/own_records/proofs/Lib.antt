pub mod Appends
pub mod Front
pub mod OpenFaults
pub mod Opens
pub mod Readings
pub mod Standing
