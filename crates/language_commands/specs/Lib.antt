pub mod Compiling
pub mod CompilingSets
pub mod Dumping
pub mod Refusals
pub mod Taken
