use Rattle.journal.proofs.LastWordLemmas.{last-words}
use Rattle.journal.proofs.laws.last_words.Goals as goal

pub returns : goal.returns
returns c base journal sid room = last-words base journal sid room
