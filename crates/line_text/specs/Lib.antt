pub mod LineText
pub mod WordText
