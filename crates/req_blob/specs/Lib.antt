pub mod Words
pub mod Opcodes
pub mod Spelling
pub mod Reading
pub mod Decoding
pub mod Encoding
pub mod FaultText
