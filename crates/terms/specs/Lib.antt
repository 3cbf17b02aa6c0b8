pub mod Bytes
pub mod Hexadecimal
pub mod Listing
pub mod Refusal
pub mod Ids
pub mod Entry
pub mod Room
pub mod Audience
