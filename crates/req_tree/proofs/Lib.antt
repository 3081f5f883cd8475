pub mod Depths
pub mod NormalForms
pub mod NormalSpelt
pub mod OidNumbers
pub mod OidTest
pub mod OidTexts
pub mod EncodableSets
pub mod WorkedRows
