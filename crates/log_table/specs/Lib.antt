pub mod HiredWorkers
pub mod Seats
pub mod Steps
