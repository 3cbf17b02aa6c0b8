pub mod Base64Lemmas
pub mod PacketLemmas
pub mod PayloadLemmas
