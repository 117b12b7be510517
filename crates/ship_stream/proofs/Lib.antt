pub mod FrameLemmas
pub mod PackingLemmas
pub mod PuttingLemmas
pub mod ShippingLemmas
pub mod StreamLemmas
