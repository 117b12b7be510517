pub mod Calls
pub mod History
pub mod Laws
pub mod Memory
pub mod MemoryDisks
