mod Dealing
mod FactsLemmas
mod Growth
mod LossLemmas
mod PoolLemmas
mod TurnLemmas
