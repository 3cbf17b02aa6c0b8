-- The events that the core gets under one hold of its lock, and their answers.
use Rattle.std.specs.Prelude.{ℕ, ◌+◌, Bool, true, false, not, List, [], ◌∷◌, ◌++◌, Option, None, Some, length, cond, is_some, nat_le}

-- events that weren't handed out yet, each with what it is of; what the one is of that was handed out last and isn't
-- answered; and the answers, each with what its event was of. So many there may be together
pub record PlainHold (O E A : Type 0) : Type 0 where
  pub brought : List (O × E)
  pub asked : Option O
  pub heard : List (O × A)
  pub most : ℕ

abbrev pub nothing_held : {O E A : Type 0} → ℕ → PlainHold O E A
nothing_held most = record { brought = []; asked = None; heard = []; most = most }

-- how many there are
abbrev pub count : {O E A : Type 0} → PlainHold O E A → ℕ
count h = length h.brought + cond (is_some h.asked) 1 0 + length h.heard

abbrev pub is_full : {O E A : Type 0} → PlainHold O E A → Bool
is_full h = nat_le h.most (count h)

abbrev is_empty : {X : Type 0} → List X → Bool
is_empty [] = true
is_empty (x ∷ xs) = false

-- some event wasn't handed out yet
abbrev pub has_next : {O E A : Type 0} → PlainHold O E A → Bool
has_next h = not (is_empty h.brought)

-- the first event is handed out, unless another one isn't answered yet
abbrev pub next_of : {O E : Type 0} → Option O → List (O × E) → Option E
next_of None (b ∷ brought) = Some b.1
next_of asked brought = None

abbrev pub after_next : {O E A : Type 0} → Option O → List (O × E) → PlainHold O E A → PlainHold O E A
after_next None (b ∷ brought) h = record h { brought = brought; asked = Some b.0 }
after_next asked brought h = h

-- the answer goes to what the event was of that was handed out last
abbrev pub after_answer : {O E A : Type 0} → Option O → A → PlainHold O E A → PlainHold O E A
after_answer None answer h = h
after_answer (Some of) answer h = record h { asked = None; heard = h.heard ++ (of, answer) ∷ [] }

-- the answers leave in the order in which they came
abbrev pub first_heard : {O A : Type 0} → List (O × A) → Option (O × A)
first_heard [] = None
first_heard (a ∷ heard) = Some a

abbrev pub later_heard : {O A : Type 0} → List (O × A) → List (O × A)
later_heard [] = []
later_heard (a ∷ heard) = heard
