pub mod SameSeats
pub mod TwoSeats
