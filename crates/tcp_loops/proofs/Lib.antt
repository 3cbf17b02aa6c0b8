pub mod ComesLemmas
pub mod HoldingLemmas
pub mod RoundLemmas
