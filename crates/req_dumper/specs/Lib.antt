pub mod Places
pub mod ReservedWords
pub mod Runs
