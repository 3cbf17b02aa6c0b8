pub mod Links
pub mod Membership
pub mod Mirror
pub mod Addressed
pub mod Asked
pub mod Remembered
