use Rattle.std.proofs.Common.{◌≡◌, take}
use Rattle.hub_state.proofs.client.Outbox.copies.Given as goal

abbrev pub invariant-loop-index : goal.invariant-loop-index
invariant-loop-index l = l.entries.items ≡ take l.index l.self.waiting
