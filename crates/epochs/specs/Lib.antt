pub mod Backends
pub mod Entrances
pub mod Epochs
pub mod LetIn
