pub mod LatestLemmas
pub mod PacketLogLemmas
pub mod MissedLemmas
pub mod SavedTableLemmas
