pub mod Listing
pub mod Rising
