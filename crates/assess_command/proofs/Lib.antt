pub mod PartsInTurn
pub mod OneLine
mod Finishes
