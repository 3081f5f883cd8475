pub mod Devices
pub mod Faults
pub mod Told
pub mod Shelf
pub mod Clock
pub mod Memory
