use Rattle.std.proofs.Common.{◌∙◌, ap, arith}
use Rattle.std.proofs.lemmas.List.{take_all}
use Rattle.journal.specs.Parking.{with_lost, without_lost}
use Rattle.journal.proofs.ParkLemmas.{one-saved, taken-back-first}
use Rattle.hub_state.proofs.state.clients.save_all.Goals as goal

pub loop-socket-preserved : goal.loop-socket-preserved
loop-socket-preserved c =
    one-saved c.args.rooms.now c.args.at c.socket-item.result c.loop-socket.socket-index c.args.sockets.now c.args.saved.now c.loop-socket.saved c.save_one.new.saved
    c.loop-socket-test.true c.socket-item.is c.loop-socket.invariant c.in_default.ensures.saved

pub returns-clause-saved : goal.returns-clause-saved
returns-clause-saved c =
    c.loop-socket.invariant ∙ ap (λ ks. with_lost c.args.rooms.now c.args.at ks c.args.saved.now) (take_all c.loop-socket.socket-index c.args.sockets.now (omega arith))

pub returns-in-Err-clause-unchanged : goal.returns-in-Err-clause-unchanged
returns-in-Err-clause-unchanged c =
    taken-back-first c.args.rooms.now c.args.at c.loop-socket.socket-index c.args.sockets.now c.args.saved.now c.loop-socket.saved c.take_back.new.saved c.requires c.loop-socket.invariant
    (c.take_back.ensures ∙ ap (without_lost c.args.sockets.now) c.in-Err.ensures.unchanged)
