pub mod AccountWord
pub mod SlotWord
