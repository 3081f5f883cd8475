pub mod Counted
pub mod FirstPiece
pub mod Laying
pub mod RowTexts
pub mod SessionText
pub mod Steps
mod WorkedRows
mod OneLine
