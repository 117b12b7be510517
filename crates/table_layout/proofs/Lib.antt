pub mod Rows
pub mod WordPlaces
