pub mod DelayLemmas
mod LookLemmas
mod NotesLemmas
mod PaceLemmas
mod PartLemmas
mod ReceivingLemmas
mod RosterLemmas
mod RotaLemmas
mod RunLemmas
pub mod WokenLemmas
