use Rattle.std.proofs.Common.{◌≡◌, take, nat_eq}
use Rattle.std.specs.HashMap.{get}
use Rattle.std.specs.List.{flat_map}
use Rattle.journal.specs.Seal.{base_at}
use Rattle.hub_state.proofs.state.seal.copy_clients.Given as goal

abbrev pub invariant-loop-client : goal.invariant-loop-client
invariant-loop-client l =
    l.copies.items ≡ flat_map (λ c. base_at c (get nat_eq l.clients c)) (take l.client-index l.ids)
