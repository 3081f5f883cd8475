pub mod ListText
pub mod Laws
