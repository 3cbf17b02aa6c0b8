mod ProgressLemmas
mod NotingLemmas
