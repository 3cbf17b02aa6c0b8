pub mod Expiry
pub mod PacketLog
pub mod Latest
pub mod Missed
pub mod SavedTable
