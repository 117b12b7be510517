pub mod Blocks
pub mod Counting
pub mod Lengths
pub mod Moments
pub mod Prefixes
pub mod Torn
pub mod Uses
