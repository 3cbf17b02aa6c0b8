use Rattle.std.proofs.Common.{Ok}
use Rattle.room_maps.proofs.PairsLemmas.{pairs_listed}
use Rattle.room_maps.proofs.rooms.Rooms.pairs.Goals as goal

pub returns-clause-pairs : goal.returns-clause-pairs
returns-clause-pairs c =
    rw (← c.self.view_is)
    (pairs_listed {E = Unit {0}} (λ pairs. pairs) c.self.inside.by_socket (Ok c.in_ok-all_pairs.field-0.items) c.all_pairs.ensures.ordered c.in_ok-all_pairs.ensures.items c.in_ok-all_pairs.ensures.rises)
