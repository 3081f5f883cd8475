pub mod Came
pub mod Failed
pub mod InTurn
pub mod Saying
