pub mod Boundaries
pub mod Dump
pub mod JudgedUnits
pub mod ListedRecords
pub mod Opened
pub mod Recovery
pub mod Text
pub mod WholeText
