pub mod Lines
pub mod Limits
pub mod Held
pub mod Reading
pub mod Steps
pub mod Laws
