pub mod Command
pub mod Feeding
pub mod Following
pub mod Leaving
pub mod Shipping
