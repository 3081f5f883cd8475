pub mod Moves
pub mod Meaning
pub mod Taken
pub mod Longest
pub mod Halting
pub mod Parentheses
pub mod WorkedRows
