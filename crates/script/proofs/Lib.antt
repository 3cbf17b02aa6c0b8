pub mod ScriptLineLemmas
pub mod PrintingLemmas
pub mod HexadecimalLemmas
pub mod ScriptLemmas
