pub mod Counter
pub mod Presence
pub mod Relay
