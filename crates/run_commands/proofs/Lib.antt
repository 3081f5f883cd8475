mod Devices
mod OneReply
mod OneStatus
mod OneTableStatus
mod Over
