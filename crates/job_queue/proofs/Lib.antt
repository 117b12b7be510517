pub mod Counting
pub mod FirstPass
pub mod Learning
pub mod Lending
pub mod PassLemmas
pub mod Popping
pub mod Pushing
