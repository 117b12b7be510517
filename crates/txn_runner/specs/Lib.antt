pub mod Places
pub mod Running
pub mod Stages
pub mod Tying
pub mod Working
