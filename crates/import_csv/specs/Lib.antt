pub mod ImportRows
pub mod ImportFile
pub mod RowCode
pub mod FaultText
pub mod Twice
pub mod Laws
