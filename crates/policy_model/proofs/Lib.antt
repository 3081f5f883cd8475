pub mod FirstRows
pub mod OwnIds
mod OneOutcome
pub mod OneMoreEvent
mod DecimalPlaces
pub mod OwnKeys
mod WorkedRows
mod PriorityTexts
