pub mod Changed
pub mod Counted
pub mod Kept
mod Spanned
mod Removed
mod Marked
