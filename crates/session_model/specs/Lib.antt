pub mod StatusText
pub mod Lines
pub mod Finishing
pub mod Slots
pub mod Session
pub mod Laws
