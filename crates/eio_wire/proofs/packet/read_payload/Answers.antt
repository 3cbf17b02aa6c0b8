use Rattle.std.proofs.Common.{subst, lit<}
use Rattle.std.proofs.lemmas.Iterator.Consumers.{YieldsList-so_far, YieldsList-turn, YieldsList-end, YieldsList-at}
use Rattle.std.proofs.lemmas.Iterator.Splits.{YieldsList-from_str_split}
use Rattle.std.proofs.lemmas.Result.{err_from_is_err_and}
use Rattle.std.specs.List.{AllZip}
use Rattle.eio_wire.specs.Packet.{Eio}
use Rattle.eio_wire.proofs.PayloadLemmas.{Payload-pieces, one_more, fault_here}
use Rattle.eio_wire.proofs.packet.read_payload.Goals as goal

pub loop-piece-preserved : goal.loop-piece-preserved
loop-piece-preserved c = rw c.in_ok-push.ensures.items
    (one_more c.loop-piece.packets.items c.in_ok-read_packet.field-0 c.loop-piece.yielded c.in-Some.piece c.loop-piece.invariant c.in_ok-read_packet.ensures.ok)

pub returns-clause-ok : goal.returns-clause-ok
returns-clause-ok c =
    let road = YieldsList-at c.into_iter-piece-iterator.ensures.into_iter_gives (YieldsList-from_str_split 30 c.args.text.now (lit< tt) c.split-piece-items.ensures.text c.split-piece-items.ensures.has_more c.split-piece-items.ensures.pattern) in
    let end = YieldsList-end road c.loop-piece.yielded _ c.loop-piece.yielded_by _ _ c.in-None.is c.next.ensures.steps in
    Payload-pieces _ c.args.text.now (subst (λ texts. AllZip Eio c.loop-piece.packets.items texts) end.0 c.loop-piece.invariant)

pub returns-in_err-read_packet-clause-err : goal.returns-in_err-read_packet-clause-err
returns-in_err-read_packet-clause-err c =
    let road = YieldsList-at c.into_iter-piece-iterator.ensures.into_iter_gives (YieldsList-from_str_split 30 c.args.text.now (lit< tt) c.split-piece-items.ensures.text c.split-piece-items.ensures.has_more c.split-piece-items.ensures.pattern) in
    let turn = YieldsList-turn road c.loop-piece.yielded _ c.loop-piece.yielded_by _ _ c.in-Some.piece c.in-Some.is c.next.ensures.steps in
    let before = YieldsList-so_far road c.loop-piece.yielded _ c.loop-piece.yielded_by in
    let p = err_from_is_err_and c.from_residual.result c.from_residual.ensures.1 in
    rw (p.1, p.2) (fault_here c.loop-piece.packets.items _ _ c.in-Some.piece.now c.args.text.now _ c.loop-piece.invariant before turn.0 turn.1 c.in_err-read_packet.ensures.err)
