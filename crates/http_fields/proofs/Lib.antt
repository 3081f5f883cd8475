pub mod FewDigits
pub mod Lengths
pub mod FirstField
pub mod Members
