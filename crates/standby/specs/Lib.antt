pub mod AppliedFrames
pub mod Following
pub mod TakenList
