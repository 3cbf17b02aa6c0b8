pub mod Facts
pub mod Serving
pub mod Turns
