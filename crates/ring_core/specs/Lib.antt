pub mod Laws
pub mod LogLaws
pub mod LogView
pub mod Machine
pub mod RingLog
pub mod Rows
pub mod Run
pub mod State
