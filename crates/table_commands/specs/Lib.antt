pub mod Replies
pub mod Steps
pub mod EditSays
pub mod ImportSays
pub mod TableSays
