-- What was put for a client, what its takes handed out, and whom an event spares, over all epochs: those that were sealed,
-- and then the present one; and all of them as one history.
use Rattle.std.specs.Prelude.{◌≡◌, ◌≢◌, ℕ, false, if◌then◌else◌, List, [], ◌∷◌, ◌++◌}
use Rattle.terms.specs.declared.entry.Entry.{Entry}
use Rattle.journal.specs.declared.step.Step.{Step}
use Rattle.journal.specs.Plain.{Limits, PlainBase}
use Rattle.journal.specs.Journal.{History, history}
use Rattle.journal.specs.Outboxes.{begins, put, entries_for, placements, waiting}
use Rattle.journal.specs.Seal.{SaysTheSame, IsLegalAndSound}
use Rattle.dispatch.specs.Following.{is_listed}
use Rattle.dispatch.specs.Handed.{Turn, HandedOut}

-- what was put for the client since it was opened: by these steps and, where none of them opens it, before them
unfoldable pub placed_on : List Entry → PlainBase → Limits → List Step → ℕ → List Entry
placed_on earlier base limits [] c = earlier
placed_on earlier base limits (step ∷ before) c =
    if begins c step.what then [] else placed_on earlier base limits before c ++ entries_for c (put base limits before step.what)

-- the same of all epochs: the histories up to each seal, the newest first, and the present one
abbrev pub all_placements : List History → History → ℕ → List Entry
all_placements [] h c = placements h.base h.limits h.journal c
all_placements (g ∷ sealed) h c = placed_on (all_placements sealed g c) h.base h.limits h.journal c

-- the later history is of the epoch that began where the earlier one was sealed
abbrev pub BeginsAfter : (earlier later : History) → Type 0
BeginsAfter earlier later = SaysTheSame earlier (history later.base later.limits [])

-- what the client's takes handed out in the turns of all epochs: with what waits at its end it is all that was put for the
-- client since it was opened, in order and each once
pub record HandedInAll (c : ℕ) (turns : List Turn) (sealed : List History) (h : History) : Type 0 where
  pub entries : List Entry
  pub out : HandedOut c turns entries
  pub whole : entries ++ waiting h.base h.limits h.journal c ≡ all_placements sealed h c

-- what was put in all epochs for each other client that isn't listed is as it was
abbrev pub SparesInAll : List History → ℕ → (before after : History) → List (List ℕ) → Type 0
SparesInAll sealed c before after lists = (d : ℕ) → d ≢ c → is_listed d lists ≡ false
    → all_placements sealed after d ≡ all_placements sealed before d

-- ---- all epochs as one

-- a hub may have both histories, and they say the same
pub record AreAlike (one other : History) : Type 0 where
  pub first : IsLegalAndSound one
  pub second : IsLegalAndSound other
  pub same : SaysTheSame one other

-- the history with these steps more, the newest first
abbrev pub with_steps : List Step → History → History
with_steps steps h = record h { journal = steps ++ h.journal }

-- the histories up to each seal, the newest first, and the present one, as one: the oldest base with the steps of all epochs
abbrev pub in_one : List History → History → History
in_one [] h = h
in_one (g ∷ sealed) h = with_steps h.journal (in_one sealed g)
