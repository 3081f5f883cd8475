pub mod Limits
pub mod EditTexts
pub mod WordLaws
pub mod Laws
