pub mod FileTexts
pub mod Files
pub mod Said
pub mod Status
pub mod Stops
