pub mod Entry
pub mod Offered
pub mod Marks
pub mod LateRanks
pub mod Objects
