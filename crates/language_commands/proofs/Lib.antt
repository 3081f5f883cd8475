mod OneStatus
mod TakenOrRefused
