pub mod Media
pub mod Answer
pub mod Pages
pub mod Folders
