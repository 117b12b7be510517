pub mod Lending
pub mod Passes
pub mod Rule
pub mod Takings
