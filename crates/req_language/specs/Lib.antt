pub mod Promise
pub mod Steps
pub mod Through
pub mod ThroughSets
