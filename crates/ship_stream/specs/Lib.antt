pub mod Came
pub mod Frames
pub mod Shipping
pub mod Stream
