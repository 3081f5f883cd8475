pub mod OidText
pub mod Rows
pub mod FactsFile
pub mod Knowledge
pub mod RowCode
pub mod Growing
pub mod Tables
pub mod FaultText
