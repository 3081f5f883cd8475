pub mod Causes
pub mod Conclusions
pub mod Ends
pub mod Headline
pub mod LastLines
pub mod Ran
pub mod Statuses
pub mod Words
