pub mod Desk
pub mod Holdings
pub mod Leg
pub mod Note
pub mod Stops
