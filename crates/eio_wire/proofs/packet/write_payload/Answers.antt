use Rattle.std.proofs.Common.{string_bytes, lit<}
use Rattle.std.proofs.lemmas.Result.{err_from_is_err_and}
use Rattle.eio_wire.proofs.PayloadLemmas.{payload_first, payload_more, refused_there}
use Rattle.eio_wire.proofs.packet.write_payload.Goals as goal

pub loop-packet-init : goal.loop-packet-init
loop-packet-init c =
    let added = c.in_ok-push_whole.ensures.ok in
    payload_first _ c.in-Some.first.now c.in-Some.rest.now _ added.0 c.in-Some.ensures.cases.0
    (rw c.new-text.ensures.bytes at added.3) added.1 added.2

pub loop-packet-preserved : goal.loop-packet-preserved
loop-packet-preserved c =
    let added = c.in_ok-push_whole-2.ensures.ok in
    payload_more _ c.in-Some.first.now c.in-Some.rest.now c.loop-packet.packet-index c.packet-item.result (string_bytes c.loop-packet.text) added.0 _
    c.in-Some.ensures.cases.0 c.loop-packet-test.true c.packet-item.is c.loop-packet.invariant added.1 added.2
    (rw (c.in_ok-push.ensures.bytes, c.in_ok-push.ensures.ascii (lit< tt)) at added.3)

pub returns-in_err-push_whole-2-clause-err : goal.returns-in_err-push_whole-2-clause-err
returns-in_err-push_whole-2-clause-err c =
    let p = err_from_is_err_and c.from_residual-in_err-push_whole-2.result c.from_residual-in_err-push_whole-2.ensures.1 in
    rw (p.1, p.2) (refused_there _ c.in-Some.first.now c.in-Some.rest.now c.loop-packet.packet-index c.packet-item.result _
    c.in-Some.ensures.cases.0 c.loop-packet-test.true c.packet-item.is c.in_err-push_whole-2.ensures.err)
