pub mod Ahead
pub mod Passing
pub mod Reading
pub mod ReadingFaults
pub mod Recovery
pub mod Taker
pub mod Window
