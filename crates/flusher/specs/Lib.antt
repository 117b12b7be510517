pub mod Flushing
pub mod Gathering
pub mod KeptLog
pub mod MadeFlusher
pub mod SentUnits
