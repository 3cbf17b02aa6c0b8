use Rattle.std.proofs.Common.{nat_eq}
use Rattle.std.specs.HashMap.{get}
use Rattle.journal.proofs.DismissalLemmas.{dropped-next}
use Rattle.hub_state.proofs.state.end.drop_all.Goals as goal

pub loop-socket-preserved : goal.loop-socket-preserved
loop-socket-preserved c =
    dropped-next c.args.place c.socket-item.result c.loop-socket.socket-index c.args.sockets.now (get nat_eq c.args.clients.now) (get nat_eq c.loop-socket.clients) (get nat_eq c.drop_from.new.clients)
    c.loop-socket-test.true c.socket-item.is c.loop-socket.invariant c.drop_from.ensures
