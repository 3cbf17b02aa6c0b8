pub mod CleanLemmas
