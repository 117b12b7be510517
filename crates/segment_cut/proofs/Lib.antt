pub mod Adding
pub mod Beginning
pub mod Behind
pub mod CallUses
pub mod HeadWrites
pub mod Headed
