use Rattle.std.proofs.Common.{◌≡◌, ℕ, ◌≤◌, length, map, take, vec_len, vec_capacity, nat_eq}
use Rattle.std.specs.HashMap.{get}
use Rattle.std.specs.Arc.{arc_value}
use Rattle.std.specs.Option.{option_map}
use Rattle.journal.specs.Outboxes.{entries_for}
use Rattle.journal.specs.Casting.{messages_for, missing, pair_of, receiver_of, with_entries}
use Rattle.hub_state.proofs.state.cast.put_each.Given as goal

abbrev pub invariant-loop-socket : goal.invariant-loop-socket
invariant-loop-socket l = record {
  told : l.reached.items ≡ map receiver_of (messages_for (get nat_eq l.initial.clients) (arc_value l.entry) (take l.socket-index l.sockets));
  missed : l.missing.items ≡ missing (get nat_eq l.initial.clients) (arc_value l.entry) (take l.socket-index l.sockets);
  put : (q : ℕ) → get nat_eq l.clients q
      ≡ option_map (with_entries (entries_for q (map pair_of (messages_for (get nat_eq l.initial.clients) (arc_value l.entry) (take l.socket-index l.sockets))))) (get nat_eq l.initial.clients q);
  few : vec_len l.reached ≤ l.socket-index;
  places : length l.sockets ≤ vec_capacity l.reached;
}
