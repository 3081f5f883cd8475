pub mod Lines
pub mod Looked
pub mod Pending
pub mod HeadRead
pub mod Body
pub mod Plain
