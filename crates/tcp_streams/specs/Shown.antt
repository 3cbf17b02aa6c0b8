-- What the core's state showed after the events of a worker.
use Rattle.std.specs.Prelude.{◌≡◌, ◌&&◌, ℕ, Bool, false, not, None, nat_eq, List, []}
use Rattle.std.specs.List.{list_any}
use Rattle.tcp_streams.specs.declared.shared.Shown.{Shown}
use Rattle.tcp_streams.specs.declared.shared.Sign.{Sign}

pub record ShowsNothing (s : Shown) : Type 0 where
  pub signs : s.signs.items ≡ []
  pub pressed : s.pressed ≡ None
  pub relieved : s.relieved ≡ false

abbrev pub has_rested : (client : ℕ) → List Sign → Bool
has_rested client signs = list_any (λ s. nat_eq s.client client && s.rests) signs

abbrev pub has_waited : (client : ℕ) → List Sign → Bool
has_waited client signs = list_any (λ s. nat_eq s.client client && not s.rests) signs

-- the client brought messages, and after none of them something waited for it
abbrev pub rests : (client : ℕ) → List Sign → Bool
rests client signs = has_rested client signs && not (has_waited client signs)
