use Rattle.std.proofs.Common.{rules, arith, ◌≡◌, ◌<◌, List, length, subst, Err}
use Rattle.eio_wire.specs.declared.packet.Packet.{Packet}
use Rattle.dispatch.specs.Takes.{handed, carried}
use Rattle.dispatch.proofs.TakeLemmas.{taken, counted, fails-to-count, stops-first, whole-carried}
use Rattle.dispatch.proofs.polling.take_waiting.Goals as goal

pub payload_of-requires-clause-whole : goal.payload_of-requires-clause-whole
payload_of-requires-clause-whole c =
    rw (c.as_slice.ensures.value, c.in_ok-packets.ensures, c.outbox_of-outbox.ensures)
    (whole-carried c.args.ping c.args.visit.client c.fitting-number.result c.args.state.now c.requires.clean)

pub returns-in_err-_taken : goal.returns-in_err-_taken
returns-in_err-_taken c =
    let h = c.args.state.now in
    let client = c.args.visit.client in
    let n = c.fitting-number.result in
    let fits = taken h client c.args.most n c.outbox_of-outbox.result.now c.outbox_of-outbox.ensures c.fitting-number.ensures in
    let (more, stops, same, line) = c.in_err-_taken.ensures.err in
    let fails = fails-to-count client n c.args.visit.moment h _ (omega (arith, fits.within)) more stops in
    let failed : c.from_residual-in_err-_taken.result ≡ Err c.in_err-_taken.field-0.0 = search rules in
    let some : 0 < length c.in_ok-packets.packets.items = search (rules, arith) in
    let carries : 0 < length (carried c.args.ping (handed h client n)) = subst (λ (packets : List Packet). 0 < length packets) (rw c.outbox_of-outbox.ensures at c.in_ok-packets.ensures) some in
    (n, fits, stops-first c.args.transport c.args.ping client n c.args.visit.moment _ _ h _ _ _ failed carries fails same line)

pub returns : goal.returns
returns c =
    let h = c.args.state.now in
    let client = c.args.visit.client in
    let n = c.fitting-number.result in
    let fits = taken h client c.args.most n c.outbox_of-outbox.result.now c.outbox_of-outbox.ensures c.fitting-number.ensures in
    let counts = counted client n c.args.visit.moment h c.take_entries.new.state (omega (arith, fits.within)) c.in_ok-_taken.ensures.none c.in_ok-_taken.ensures.some in
    (n, fits, search (rules, counts))
