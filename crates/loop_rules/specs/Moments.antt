-- What is due at moments.
use Rattle.std.specs.Prelude.{◌≡◌, ◌≤◌, ℕ, Option, None, Some}
use Rattle.loop_rules.specs.Rotas.{IsQuiet}
use Rattle.loop_rules.specs.Delays.{first_of}
use Rattle.loop_rules.specs.Links.{next_held}
use Rattle.loop_rules.specs.declared.delays.Delays.{Delays}
use Rattle.loop_rules.specs.declared.links.Links.{Links}

abbrev pub IsNotAfterSome : (moment : ℕ) → Option ℕ → Type 0
IsNotAfterSome moment None = Unit {0}
IsNotAfterSome moment (Some first) = moment ≤ first

-- no GET that waits is due before
abbrev pub IsNotAfter : (moment : ℕ) → Delays → Type 0
IsNotAfter moment d = IsNotAfterSome moment (first_of d.waiting.items)

-- nobody is called or has more to look at, nor may one that is held be read on
pub record HasNothingToDo (l : Links) : Type 0 where
  pub quiet : IsQuiet l.roster.rota
  pub held : next_held l.receiving ≡ None
