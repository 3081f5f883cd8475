pub mod Directories
pub mod Slots
pub mod Pages
pub mod Checks
pub mod Digests
pub mod Signatures
pub mod Agreement
pub mod FaultText
