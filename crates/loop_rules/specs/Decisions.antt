-- What a connection does next.
use Rattle.std.specs.Prelude.{ℕ, ◌-◌, Bool, cond, nat_eq}
use Rattle.loop_rules.specs.declared.looks.Decision.{Decision}
use Rattle.loop_rules.specs.declared.looks.Decision.TheVariants as decision

-- a full one waits until its bytes have gone, an idle one until something comes for it, and one
-- whose stint is spent until others had theirs
abbrev pub decision_for : ℕ → Bool → Bool → Decision
decision_for left idle full =
    cond full decision.Held (cond idle decision.Rests (cond (nat_eq left 0) decision.Again decision.GoesOn))

-- one that goes on spends one of the events of its stint
abbrev pub left_after : ℕ → Decision → ℕ
left_after left decision.GoesOn = left - 1
left_after left _ = left
