pub mod FirstByRank
pub mod Judged
pub mod Snapshots
