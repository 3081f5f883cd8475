pub mod Ask
pub mod Tests
pub mod Laws
