pub mod Found
pub mod FirstRules
pub mod Snapshot
pub mod Touched
pub mod Tally
pub mod Prepared
pub mod Held
