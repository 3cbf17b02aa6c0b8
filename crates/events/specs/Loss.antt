-- How often the core is told of a lost client.
use Rattle.std.specs.Prelude.{◌≡◌, ◌&&◌, ◌-◌, ◌<◌, nat_lt, ℕ, true, List, [], ◌∷◌, ◌++◌, length, is_err, cond}
use Rattle.std.specs.List.{All}
use Rattle.events.specs.Answer.{Answer}
use Rattle.events.specs.declared.loss.Retry.{Retry}
use Rattle.events.specs.declared.loss.Retry.TheVariants as retry

-- how often it is told, at the most
abbrev pub most_tries : ℕ
most_tries = 3

-- what follows its answer, where it may have been told so often yet: it is told again where it refused, unless this was the last time
abbrev pub follows : (left : ℕ) → Answer → Retry
follows left got = cond (is_err got && nat_lt 1 left) retry.Again retry.Over

-- these are its answers, the first one first: it refused all but the last, and was told again; after the last it wasn't
pub record AreTries (answers : List Answer) : Type 0 where
  pub refused : List Answer
  pub last : Answer
  pub are : answers ≡ refused ++ last ∷ []
  pub again : All (λ got. is_err got ≡ true) refused
  pub fewer : length refused < most_tries
  pub over : follows (most_tries - length refused) last ≡ retry.Over
