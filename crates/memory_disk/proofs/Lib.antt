pub mod Calls
pub mod Cuts
pub mod Recorded
pub mod Replays
