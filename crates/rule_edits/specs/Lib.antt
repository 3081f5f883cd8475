pub mod EditKey
pub mod Edit
pub mod Fronts
pub mod Verb
pub mod NewFront
pub mod Reads
