pub mod Gates
pub mod Faults
pub mod Keeping
pub mod Remarks
pub mod Progress
pub mod Wards
pub mod Telling
pub mod Servers
