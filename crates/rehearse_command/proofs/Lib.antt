pub mod Answered
pub mod NewDesk
