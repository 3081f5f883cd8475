pub mod Numbers
pub mod Blobs
pub mod SuperBlobs
pub mod Writing
pub mod FaultText
