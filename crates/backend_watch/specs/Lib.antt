pub mod Digits
pub mod Receivers
pub mod Watching
