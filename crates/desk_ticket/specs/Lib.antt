pub mod Once
pub mod Ticket
