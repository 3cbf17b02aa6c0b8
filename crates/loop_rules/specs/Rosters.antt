-- Who is woken where something was put for clients.
use Rattle.std.specs.Prelude.{◌≡◌, ℕ, ◌<◌, Bool, true, false, cond, Option, None, Some, nat_eq, List, length, slice_index_or}
use Rattle.loop_rules.specs.declared.looks.LookState.{LookState}
use Rattle.loop_rules.specs.declared.roster.Roster.{Roster}
use Rattle.loop_rules.specs.declared.roster.Notes.{Notes}
use Rattle.loop_rules.specs.Ids.{loop_of}
use Rattle.loop_rules.specs.Notes.{is_noted}
use Rattle.loop_rules.specs.Rotas.{Waiting, look_of, will_look, will_take, put_for_at, called_below}
use Rattle.loop_rules.specs.Takers.{taker_of}

-- the connection to which what is put for a client goes will look, or its look has yet to take that, if there
-- is one here; where there was no memory to list some, all will look
abbrev pub IsWoken : Option ℕ → Bool → List LookState → Type 0
IsWoken (Some key) unlisted looks = key < length looks → will_take (look_of looks key) ≡ true
IsWoken None unlisted looks =
    unlisted ≡ true → (key : ℕ) → key < length looks → will_look (look_of looks key) ≡ true

-- something was put for whom takes for a client; where none is listed and some could not be, all are
abbrev pub woken_at : Option ℕ → Bool → Waiting → Waiting
woken_at (Some key) unlisted w = put_for_at key w
woken_at None unlisted w = cond unlisted (called_below (length w.looks) w) w

-- who will look still will, and who will look or take
pub record Keeps (old new : List LookState) : Type 0 where
  pub long : length new ≡ length old
  pub kept : (key : ℕ) → will_look (look_of old key) ≡ true → will_look (look_of new key) ≡ true
  pub takes : (key : ℕ) → will_take (look_of old key) ≡ true → will_take (look_of new key) ≡ true

-- a client of this loop is woken, and one of another is noted for it
abbrev pub IsToldBy : Bool → ℕ → ℕ → Roster → Notes → Type 0
IsToldBy true owner client r notes = IsWoken (taker_of r.takers client) r.takers.unlisted r.rota.looks
IsToldBy false owner client r notes = is_noted owner client notes ≡ true

abbrev pub IsTold : ℕ → ℕ → ℕ → Roster → Notes → Type 0
IsTold own loops client r notes = IsToldBy (nat_eq (loop_of client loops) own) (loop_of client loops) client r notes

abbrev pub AreTold : ℕ → ℕ → List ℕ → Roster → Notes → Type 0
AreTold own loops clients r notes =
    (k : ℕ) → k < length clients → IsTold own loops (slice_index_or clients k 0) r notes

-- nothing is forgotten: who takes for which client, which connections will look, and who was noted
pub record Remembers (before after : Roster) (old new : Notes) : Type 0 where
  pub takers : after.takers ≡ before.takers
  pub looks : Keeps before.rota.looks after.rota.looks
  pub noted : (n c : ℕ) → is_noted n c old ≡ true → is_noted n c new ≡ true
