pub mod Session
pub mod Heard
pub mod Truly
pub mod Worked
pub mod LastWords
pub mod Within
