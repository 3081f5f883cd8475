pub mod Keyed
pub mod Knowledge
pub mod Growth
pub mod Pieces
