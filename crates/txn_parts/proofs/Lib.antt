pub mod DeskLemmas
pub mod Moving
