pub mod Asked
pub mod Keys
pub mod Options
pub mod Wrong
