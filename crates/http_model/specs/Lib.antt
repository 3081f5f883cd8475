pub mod Faults
pub mod Heads
pub mod Fields
pub mod Streams
pub mod Replies
pub mod Paths
pub mod Forms
pub mod Laws
