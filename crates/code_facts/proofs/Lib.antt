pub mod Bits
pub mod Growth
pub mod Soundness
pub mod Listing
pub mod OidBytes
pub mod FileLemmas
pub mod RowLemmas
pub mod Refusals
pub mod TableLemmas
mod WorkedRows
