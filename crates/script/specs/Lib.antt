pub mod ScriptLine
pub mod Setup
pub mod Events
pub mod Printing
pub mod Playing
pub mod Script
