pub mod Completeness
pub mod FedLemmas
pub mod FollowCases
pub mod FollowLemmas
pub mod LeavingLemmas
pub mod SettledLemmas
pub mod ShipLemmas
pub mod ShippedLemmas
