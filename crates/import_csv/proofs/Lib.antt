pub mod HeaderFields
pub mod RightRows
pub mod OneRow
pub mod OneImport
pub mod ComesTwice
pub mod Refused
pub mod EachImport
