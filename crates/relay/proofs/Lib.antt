mod CleanLemmas
mod PresenceLemmas
