-- What a loop gathers for one hold of the core's lock.
use Rattle.std.specs.Prelude.{ℕ, ◌-◌, ◌≡◌, ◌⊎◌, ◌++◌, ◌∷◌, [], Bool, true, false, Option, None, Some, List, length, nat_lt, cond, sum_by}
use Rattle.events.specs.Answer.{Answer}
use Rattle.events.specs.declared.event.Event.{Event}
use Rattle.events.specs.declared.event.Event.TheVariants as event
use Rattle.peers.specs.Rounds.{message_length}
use Rattle.tcp_loops.specs.declared.driver.Origin.{Origin}
use Rattle.tcp_loops.specs.declared.driver.Origin.TheVariants as origin

-- an event brings packets
abbrev pub says : Event → Bool
says (event.Frame client frame) = true
says (event.Post client body) = true
says _ = false

abbrev is_much : Option ℕ → Bool
is_much None = false
is_much (Some length) = nat_lt 16384 length

-- more than 16 KiB of packets come together
abbrev pub is_large : Event → Bool
is_large (event.Post client body) = nat_lt 16384 (length body)
is_large other = is_much (message_length other)

-- how many events that bring packets there may be yet behind one, of so many with it: after a large one none
abbrev pub left_after : Event → (saying : ℕ) → ℕ
left_after e saying = cond (is_large e) 0 (cond (says e) (saying - 1) saying)

-- how many of these events bring packets
abbrev pub saying_count : {O : Type 0} → List (O × (Event × ℕ)) → ℕ
saying_count brought = sum_by (λ b. cond (says b.1.0) 1 0) brought

-- an answer stands behind those that are kept, if its connection went on before it; else it is given back, and they stay
abbrev pub IsKept : Origin → Answer → (back : Option Answer) → (old new : List (ℕ × Answer)) → Type 0
IsKept (origin.Ahead key) got None old new = new ≡ old ++ (key, got) ∷ []
IsKept of got None old new = ⊥
IsKept of got (Some back) old new = (back ≡ got) × (new ≡ old)

-- it is, or none are any more: so it is once any other answer was heard
abbrev pub IsKeptOrNone : Origin → Answer → (old new : List (ℕ × Answer)) → Type 0
IsKeptOrNone (origin.Ahead key) got old new = (new ≡ old ++ (key, got) ∷ []) ⊎ (new ≡ [])
IsKeptOrNone of got old new = new ≡ []
