use Rattle.std.proofs.Common.{rules, ap}
use Rattle.recovery.specs.SavedTable.{saved}
use Rattle.hub_state.proofs.state.clients.save_one.Goals as goal

pub returns-clause-saved : goal.returns-clause-saved
returns-clause-saved c =
    let is = ap (λ rooms. saved c.args.saved.now (record { sid = c.args.socket.sid; pid = c.args.socket.pid; space = c.args.socket.space; rooms = rooms; lost_at = c.args.at })) c.in_ok-rooms_in.ensures.rooms in
    search (rules, is)
