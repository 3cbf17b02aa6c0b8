use Rattle.journal.proofs.ParkLemmas.{rooms-listed}
use Rattle.hub_state.proofs.state.end.rooms_in.Goals as goal

pub returns-in-Ok : goal.returns-in-Ok
returns-in-Ok c = record { rooms = rooms-listed c.args.rooms.now c.args.sid c.in-Ok.inside.items c.in-Ok.ensures.rooms }
