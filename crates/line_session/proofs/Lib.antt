pub mod ToldBytes
pub mod Devices
pub mod OneLineMore
pub mod SessionEnds
pub mod AfterAReply
