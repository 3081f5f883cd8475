mod Changed
mod Spanned
mod Rising
mod Removed
mod Marked
