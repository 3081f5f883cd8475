mod OneRead
mod OneList
mod EachHasRecords
