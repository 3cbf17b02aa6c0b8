pub mod Entrance
pub mod Guarded
pub mod Telling
pub mod Commands
pub mod Reading
pub mod Expiring
pub mod Deadlines
