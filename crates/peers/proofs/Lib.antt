pub mod AcceptedLemmas
pub mod ReadLemmas
pub mod SentLemmas
pub mod StageLemmas
