use Rattle.std.proofs.Common.{◌∙◌, ap, arith}
use Rattle.std.proofs.lemmas.List.{take_all}
use Rattle.journal.specs.Parking.{without_lost}
use Rattle.journal.proofs.ParkLemmas.{one-back, none-back}
use Rattle.hub_state.proofs.state.clients.take_back.Goals as goal

pub loop-socket-init : goal.loop-socket-init
loop-socket-init c = none-back c.args.saved.now

pub loop-socket-preserved : goal.loop-socket-preserved
loop-socket-preserved c =
    one-back c.socket-item.result c.loop-socket.socket-index c.args.sockets.now c.args.saved.now c.loop-socket.saved c.remove-session.new.self c.loop-socket-test.true c.socket-item.is c.loop-socket.invariant c.remove-session.ensures.removed

pub returns : goal.returns
returns c = c.loop-socket.invariant ∙ ap (λ ks. without_lost ks c.args.saved.now) (take_all c.loop-socket.socket-index c.args.sockets.now (omega arith))
