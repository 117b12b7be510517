pub mod Accounts
pub mod Lists
pub mod Number
pub mod Opening
pub mod Tiling
pub mod Unit
