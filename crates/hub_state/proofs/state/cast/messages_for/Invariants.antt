use Rattle.std.proofs.Common.{◌≡◌, take, nat_eq}
use Rattle.std.specs.HashMap.{get}
use Rattle.std.specs.Arc.{arc_value}
use Rattle.journal.specs.Casting.{messages_for, missing}
use Rattle.hub_state.proofs.state.cast.messages_for.Given as goal

abbrev pub invariant-loop-socket : goal.invariant-loop-socket
invariant-loop-socket l = record {
  told : l.messages.items ≡ messages_for (get nat_eq l.clients) (arc_value l.entry) (take l.socket-index l.sockets);
  missed : l.missing.items ≡ missing (get nat_eq l.clients) (arc_value l.entry) (take l.socket-index l.sockets);
}
