pub mod KeptEntries
pub mod LateRanks
