-- How long a connection may take, in milliseconds.
use Rattle.std.specs.Prelude.{ℕ, ◌-◌, Bool, cond, nat_le}
use Rattle.loop_rules.specs.declared.deadlines.Period.{Period}
use Rattle.loop_rules.specs.declared.deadlines.Period.TheVariants as period
use Rattle.loop_rules.specs.declared.link.Do.{Do}
use Rattle.loop_rules.specs.declared.link.Do.TheVariants as what

-- what is to be done with a connection that has been so long at this period, of which bytes are stuck or not
abbrev pub overdue_at : Period → ℕ → (is_stuck : Bool) → Do
overdue_at period.Request age is_stuck = cond (nat_le 10000 age) what.End what.Nothing
overdue_at period.Waits age is_stuck = cond (nat_le 20000 age) what.GiveUp what.Nothing
overdue_at period.Knocks age is_stuck = cond (nat_le 10000 age) what.Cut what.Queue
overdue_at period.Served age is_stuck = cond is_stuck what.Fail what.Nothing
overdue_at period.Sends age is_stuck = cond is_stuck what.End what.Nothing
overdue_at period.Ends age is_stuck = cond (nat_le 2000 age) what.End what.Nothing

-- no byte of what isn't whole has come for 30 s
abbrev pub has_stopped : ℕ → ℕ → Bool
has_stopped moved now = nat_le 30000 (now - moved)

-- who goes on beyond the share of its loop has done so for 30 s
abbrev pub has_had_its_turn : ℕ → ℕ → Bool
has_had_its_turn since now = nat_le 30000 (now - since)
