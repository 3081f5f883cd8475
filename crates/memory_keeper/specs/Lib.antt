pub mod Changes
pub mod Kept
pub mod Marks
pub mod Memory
pub mod Spans
