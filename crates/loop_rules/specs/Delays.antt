-- GETs that are served a little later.
use Rattle.std.specs.Prelude.{◌≡◌, ◌⊎◌, ℕ, Option, None, Some, cond, nat_eq, nat_lt, List, [], ◌∷◌, ◌++◌}
use Rattle.std.specs.HashMap.{get}
use Rattle.http_edge.specs.declared.routes.Target.{Target}
use Rattle.http_edge.specs.declared.routes.Target.TheVariants as target
use Rattle.peers.specs.Noops.{is_recent, served_from}
use Rattle.loop_rules.specs.declared.delays.Delays.{Delays}

-- when a client was last told that nothing waits
abbrev pub told_at : Delays → (client : ℕ) → Option ℕ
told_at d client = get nat_eq d.noops client

-- it is told so now, or where there is no memory it stays as it was
abbrev pub IsTold : (now : ℕ) → (old new : Option ℕ) → Type 0
IsTold now old new = (new ≡ Some now) ⊎ (new ≡ old)

-- who was told just so
abbrev pub if_recent : (now : ℕ) → Option ℕ → Option ℕ
if_recent now None = None
if_recent now (Some told) = cond (is_recent told now) (Some told) None

-- from when on a request is served
abbrev pub from_of : Delays → Target → (now : ℕ) → ℕ
from_of d (target.Poll client) now = served_from (told_at d client) now
from_of d _ now = now

-- one that is served later waits behind the others
abbrev pub Waits : (now from key : ℕ) → (old new : List (ℕ × ℕ)) → Type 0
Waits now from key old new = new ≡ cond (nat_lt now from) (old ++ (from, key) ∷ []) old

abbrev pub first_of : List (ℕ × ℕ) → Option ℕ
first_of [] = None
first_of (w ∷ waiting) = Some w.0

-- the first one, if its moment has come
abbrev pub due_of : (now : ℕ) → List (ℕ × ℕ) → Option ℕ
due_of now [] = None
due_of now (w ∷ waiting) = cond (nat_lt now w.0) None (Some w.1)

abbrev pub without_due : (now : ℕ) → List (ℕ × ℕ) → List (ℕ × ℕ)
without_due now [] = []
without_due now (w ∷ waiting) = cond (nat_lt now w.0) (w ∷ waiting) waiting
