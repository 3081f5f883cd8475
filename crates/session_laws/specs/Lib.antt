pub mod Laws
pub mod Asks
