-- How a socket ended, in a word.
use Rattle.std.specs.Prelude.{ℕ, List, codes}
use Rattle.journal.specs.declared.ending.Ending.{Ending}
use Rattle.journal.specs.declared.ending.Ending.TheVariants.{Saved, Closed, Alone, Together}
use Rattle.journal.specs.declared.ending.Side.TheVariants.{Client, Server}

abbrev pub ending_word : Ending → List ℕ
ending_word Saved = codes "saved"
ending_word Closed = codes "closed"
ending_word (Alone Client) = codes "left"
ending_word (Alone Server) = codes "alone"
ending_word Together = codes "together"
