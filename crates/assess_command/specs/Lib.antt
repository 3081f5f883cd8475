pub mod Files
pub mod Assessments
