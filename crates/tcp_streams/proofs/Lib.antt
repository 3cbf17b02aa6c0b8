pub mod AcceptorLemmas
pub mod OutputLemmas
