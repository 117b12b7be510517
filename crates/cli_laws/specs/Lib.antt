pub mod Generated
pub mod InTurn
pub mod LogEnd
pub mod Recovered
pub mod RunPromise
pub mod RunWitness
pub mod Told
