pub mod Slots
pub mod Answered
pub mod Requests
pub mod Memory
