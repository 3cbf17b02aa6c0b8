use denote.Shadow.{shadow}
use denote.Text.{Utf8}
use Rattle.std.proofs.Common.{ℕ, List, ◌++◌, length, map, Some}
use Rattle.sio_wire.specs.Texts.{AreAlone}
use Rattle.sio_wire.proofs.VerbatimLemmas.{Leaves}
use Rattle.sio_wire.proofs.verbatim.verbatim_texts.Given as goal

-- the array has the texts that were found, and then those that are left, whichever these are
abbrev pub invariant-texts : goal.invariant-texts
invariant-texts l = record {
  found : (texts : List (List ℕ)) → Leaves l.rest texts → AreAlone (l.found.items ++ map Some texts) l.fn.payload;
  utf8 : shadow (Utf8 l.rest);
}

abbrev pub decreases-texts : goal.decreases-texts
decreases-texts l = length l.rest
