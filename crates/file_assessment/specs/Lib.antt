pub mod Assessing
