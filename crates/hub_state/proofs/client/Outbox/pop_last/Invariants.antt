use Rattle.std.proofs.Common.{◌≡◌, ◌-◌, length, take}
use Rattle.hub_state.proofs.client.Outbox.pop_last.Given as goal

abbrev pub invariant-loop-turn : goal.invariant-loop-turn
invariant-loop-turn l = l.self ≡ record l.fn.self { waiting = take (length l.fn.self.waiting - l._turn) l.fn.self.waiting }
