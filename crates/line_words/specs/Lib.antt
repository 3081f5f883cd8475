pub mod Faults
pub mod Flags
pub mod Left
pub mod WordTexts
