pub mod Readings
pub mod Fault
pub mod Tables
pub mod Fields
