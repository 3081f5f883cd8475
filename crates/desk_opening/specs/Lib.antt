pub mod Facts
pub mod Laws
pub mod Opens
pub mod StoreTexts
