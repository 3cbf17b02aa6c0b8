mod CleanLemmas
mod DeadlinesLemmas
mod IntroducedLemmas
pub mod PrintLemmas
