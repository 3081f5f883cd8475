pub mod Dumped
pub mod Said
pub mod Sayable
pub mod Sets
pub mod Laws
