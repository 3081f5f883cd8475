pub mod NumericLemmas
pub mod ByBytes
pub mod Kept
pub mod Chains
mod Worked
