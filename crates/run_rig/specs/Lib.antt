pub mod Disks
pub mod Enlisted
pub mod Queued
