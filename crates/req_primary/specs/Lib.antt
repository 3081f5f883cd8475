pub mod Steps
pub mod Tests
pub mod Primaries
pub mod Operands
pub mod Keys
pub mod Laws
pub mod Leads
