use Rattle.continuity.proofs.LastWordsLemmas.{last-open, last-connected}
use Rattle.continuity.proofs.SavedLemmas.{last-saved}
use Rattle.continuity.proofs.laws.last_words_of_sessions.Goals as goal

pub returns : goal.returns
returns c = record {
  clients = λ base journal client. last-open base journal client;
  connected_sockets = λ base limits journal sid legal. last-connected base limits sid journal legal;
  saved_sessions = λ base limits journal pid legal. last-saved base limits pid journal legal;
}
