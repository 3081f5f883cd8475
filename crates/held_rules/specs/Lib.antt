pub mod Rooms
pub mod Spare
pub mod Spans
pub mod Marks
pub mod FirstByte
