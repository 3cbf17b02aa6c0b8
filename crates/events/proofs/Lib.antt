pub mod WholeLemmas
