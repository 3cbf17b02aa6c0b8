use Rattle.std.proofs.Common.{nat_eq}
use Rattle.std.specs.HashMap.{get}
use Rattle.journal.proofs.SocketsLemmas.{unseated}
use Rattle.hub_state.proofs.state.connect.seat.Goals as goal

pub returns-in-Err-clause-unchanged : goal.returns-in-Err-clause-unchanged
returns-in-Err-clause-unchanged c =
    (unseated (get nat_eq c.args.clients.now) (get nat_eq c.add_socket.new.clients) (get nat_eq c.drop_socket.new.clients) c.args.socket.now.client c.args.socket.now c.in_ok-add_socket.ensures.ok c.drop_socket.ensures, c.in-Err.ensures.err)
