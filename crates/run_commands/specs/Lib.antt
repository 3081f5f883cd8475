pub mod Answers
pub mod Halts
pub mod Laws
pub mod Over
pub mod Says
pub mod Spoken
