-- Whose stint is next, and what a beat of a loop does.
use Rattle.std.specs.Prelude.{◌≡◌, ◌-◌, ℕ, Bool, true, false, not, ◌&&◌, Option, None, Some, List, [], ◌∷◌, cond, nat_eq}
use Rattle.loop_rules.specs.Pressures.{known, pressed_at}
use Rattle.loop_rules.specs.Rotas.{next_of}
use Rattle.loop_rules.specs.declared.pressure.Pressure.{Pressure}
use Rattle.loop_rules.specs.Rounds.{after_beat, is_beat}
use Rattle.loop_rules.specs.declared.rounds.Round.{Round}

-- one whose stint goes on is next, and else the first that has something to do, if one is to begin, and the round has stints left
abbrev pub key_next : (active : List ℕ) → (begins : Bool) → (stints : ℕ) → (ready : List ℕ) → Option ℕ
key_next (key ∷ active) begins stints ready = Some key
key_next [] begins stints ready = cond (begins && not (nat_eq stints 0)) (next_of ready) None

-- one that begins is one of the round's stints
abbrev pub stints_after : (active : List ℕ) → (next : Option ℕ) → (stints : ℕ) → ℕ
stints_after (key ∷ active) next stints = stints
stints_after [] None stints = stints
stints_after [] (Some key) stints = stints - 1

abbrev pub after_due : (everyone : Bool) → Round → Round
after_due everyone r = cond (is_beat everyone r) (after_beat r) r

-- the digits of all clients are forgotten, or none are
abbrev pub Forgets : Bool → (old new : Pressure) → Type 0
Forgets true old new = (client : ℕ) → known new client ≡ None
Forgets false old new = new ≡ old

abbrev pub pressed_to : Option ℕ → (now : ℕ) → Pressure → Pressure
pressed_to None now p = p
pressed_to (Some digits) now p = pressed_at now digits p
