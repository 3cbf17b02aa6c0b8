use Rattle.std.proofs.Common.{rules, arith, ◌≡◌, ◌≤◌, true, length, Err}
use Rattle.journal.specs.Outboxes.{waiting}
use Rattle.dispatch.proofs.TakeLemmas.{taken, counted, fails-to-count}
use Rattle.dispatch.proofs.FrameLemmas.{sends-first, sends-none, some-due}
use Rattle.dispatch.proofs.clients.take_waiting.Goals.{else-number-eq0-via-then-number-eq0+else-not-ping, else-number-eq0-via-else-number-eq0}
use Rattle.dispatch.proofs.clients.take_waiting.Goals as goal

pub returns : goal.returns
returns c =
    let h = c.args.state.now in
    let client = c.args.visit.client in
    let n = c.fitting-number.result in
    let outbox = c.outbox_of-outbox.ensures in
    let fits = taken h client c.args.most n c.outbox_of-outbox.result.now outbox c.fitting-number.ensures in
    let within : n ≤ length (waiting h.base h.limits h.journal client) = omega (arith, fits.within) in
    let counts = counted client n c.args.visit.moment h c.take_entries.new.state within c.in_ok-entries.ensures.none c.in_ok-entries.ensures.some in
    let entries = c.in_ok-entries.ensures.entries in
    let due : n ≡ 0 → c.args.ping ≡ true = elim c.else-number-eq0.branch [
      | else-number-eq0-via-then-number-eq0+else-not-ping w ↦ λ none. w.if-not-ping.false
      | else-number-eq0-via-else-number-eq0 w ↦ λ none. absurd (w.if-number-eq0.false none)
    ] in
    let some = some-due c.args.ping (waiting h.base h.limits h.journal client) n within due in
    (n, fits, sends-first c.args.ping client n c.args.visit.moment c.new.result _ _ h c.take_entries.new.state c.args.line.now c.take_entries.new.line some c.new.ensures entries (search rules) counts c.in_ok-entries.ensures.line)

pub returns-in_err-entries : goal.returns-in_err-entries
returns-in_err-entries c =
    let h = c.args.state.now in
    let client = c.args.visit.client in
    let n = c.fitting-number.result in
    let fits = taken h client c.args.most n c.outbox_of-outbox.result.now c.outbox_of-outbox.ensures c.fitting-number.ensures in
    let within : n ≤ length (waiting h.base h.limits h.journal client) = omega (arith, fits.within) in
    let (more, stops, same, line) = c.in_err-entries.ensures.err in
    let fails = fails-to-count client n c.args.visit.moment h _ within more stops in
    let failed : c.from_residual.result ≡ Err c.in_err-entries.field-0.0 = search rules in
    (n, fits, sends-none c.args.ping client n c.args.visit.moment _ _ h _ _ _ failed within more fails same line)
