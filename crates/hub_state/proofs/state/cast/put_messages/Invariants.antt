use Rattle.std.proofs.Common.{◌≡◌, ℕ, ◌++◌, length, map, nat_eq}
use Rattle.std.specs.HashMap.{get}
use Rattle.std.specs.Option.{option_map}
use Rattle.journal.specs.Outboxes.{entries_for}
use Rattle.journal.specs.Casting.{pair_of, with_entries}
use Rattle.hub_state.proofs.state.cast.put_messages.Given as goal

abbrev pub invariant-loop-message : goal.invariant-loop-message
invariant-loop-message l = record {
  clients : (q : ℕ) → get nat_eq l.clients q ≡ option_map (with_entries (entries_for q (map pair_of l.yielded))) (get nat_eq l.initial.clients q);
  split : l.fn.messages.items ≡ l.yielded ++ l.message-iterator.rest.items;
  number : l.put ≡ length l.yielded;
}
