use Rattle.std.proofs.Common.{◌≡◌, ℕ, ◌==◌, take, if◌then◌else◌, nat_eq}
use Rattle.std.specs.List.{list_any}
use Rattle.std.specs.Option.{option_map}
use Rattle.std.specs.HashMap.{get}
use Rattle.journal.specs.Fields.{without_place}
use Rattle.journal.specs.declared.socket.Socket.{Socket}
use Rattle.hub_state.proofs.state.end.drop_all.Given as goal

abbrev pub invariant-loop-socket : goal.invariant-loop-socket
invariant-loop-socket l = (q : ℕ) → get nat_eq l.clients q ≡ (if list_any (λ (k : Socket). k.client == q) (take l.socket-index l.sockets) then option_map (without_place l.place) (get nat_eq l.initial.clients q) else get nat_eq l.initial.clients q)
