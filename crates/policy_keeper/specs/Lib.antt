pub mod Change
pub mod Told
pub mod Mirror
