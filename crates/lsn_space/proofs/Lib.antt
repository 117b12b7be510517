pub mod ListLemmas
pub mod TilingLemmas
pub mod UnitLemmas
