pub mod Usual
pub mod Wrong
