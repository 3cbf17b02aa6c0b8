pub mod ActLemmas
mod AnsweringLemmas
mod AskLemmas
pub mod CleanLemmas
mod ConnectLemmas
pub mod EventLaws
mod FrameLemmas
mod HandedLemmas
pub mod HearingLaws
pub mod HearingLemmas
mod PacketLaws
mod PacketLemmas
mod RefusalLemmas
pub mod RunsLemmas
mod ServerLemmas
pub mod StepLemmas
mod TakeLemmas
mod TurnLemmas
mod UpgradeLemmas
mod UpkeepLemmas
pub mod WorkLemmas
