pub mod Keys
pub mod Read
pub mod Sound
pub mod PlainReadings
pub mod Leads
