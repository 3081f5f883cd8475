pub mod SlotLemmas
pub mod PartLemmas
pub mod SoundLemmas
pub mod Identifiers
pub mod UsedLemmas
pub mod ViewLemmas
mod WorkedRows
