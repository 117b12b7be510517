pub mod AppliedFrames
pub mod FollowedParts
pub mod FrameLists
pub mod JudgedFrames
pub mod NeverAhead
pub mod StoppedStreams
