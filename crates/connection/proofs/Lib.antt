pub mod HeartbeatLemmas
pub mod ClockLemmas
pub mod EntryLemmas
pub mod QuestionLemmas
pub mod BookLemmas
mod LineLemmas
mod WholeLemmas
