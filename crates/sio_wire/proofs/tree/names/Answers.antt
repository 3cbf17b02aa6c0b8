use Rattle.sio_wire.proofs.TextsLemmas.{names_at-alone}
use Rattle.sio_wire.proofs.tree.names.Goals as goal

pub returns-in-Some-clause-ok : goal.returns-in-Some-clause-ok
returns-in-Some-clause-ok c = names_at-alone c.args.payload.now c.in-Some.found.items (rw c.in-Some.is at c.in_ok-found.ensures)
