pub mod Base64
pub mod Packet
pub mod Payload
pub mod Handshake
