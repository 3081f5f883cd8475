pub mod Counts
pub mod Around
