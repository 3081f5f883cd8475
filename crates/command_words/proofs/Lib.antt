pub mod Faults
pub mod Joined
pub mod Values
mod WorkedRows
