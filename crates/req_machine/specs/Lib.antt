pub mod Machine
pub mod Parentheses
pub mod Laws
