pub mod LinesEnd
pub mod Refused
pub mod HeadsRead
pub mod PlainStream
