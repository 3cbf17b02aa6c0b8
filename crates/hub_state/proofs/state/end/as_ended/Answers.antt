use Rattle.std.proofs.Common.{◌∙◌, ◌++◌, ◌∷◌, [], map, ap, arith}
use Rattle.std.proofs.lemmas.List.{take_all}
use Rattle.hub_state.specs.EndedSockets.{as_ended}
use Rattle.hub_state.proofs.WalkLemmas.{mapped}
use Rattle.hub_state.proofs.state.end.as_ended.Goals as goal

pub loop-socket-preserved : goal.loop-socket-preserved
loop-socket-preserved c =
    mapped (as_ended c.args.ending c.args.rooms.now) c.args.sockets.now c.loop-socket.socket-index c.socket-item.result _ _ (omega arith) c.socket-item.is c.loop-socket.invariant
    (c.in_ok-push.ensures.items ∙ ap (λ inside. c.loop-socket.list.items ++ record { socket = c.socket-item.result; rooms = inside; ending = c.args.ending } ∷ []) c.in_ok-rooms_in.ensures.rooms)

pub returns : goal.returns
returns c = record { ok = c.loop-socket.invariant ∙ ap (map (as_ended c.args.ending c.args.rooms.now)) (take_all c.loop-socket.socket-index c.args.sockets.now (omega arith)) }
