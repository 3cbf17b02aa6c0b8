use Rattle.std.proofs.Common.{rules, ◌≡◌, ◌∙◌, ap, Some, Err, refl, subst}
use Rattle.connection.specs.Line.{PlainLine}
use Rattle.dispatch.specs.Scene.{seen, visit_at}
use Rattle.dispatch.specs.Machine.{opening}
use Rattle.dispatch.specs.Packets.{course, BreaksAfter}
use Rattle.dispatch.specs.Holding.{line_of, holding, KeepsOthers}
use Rattle.dispatch.proofs.TurnLemmas.{ends-with}
use Rattle.dispatch.proofs.clients.work_on.Goals as goal

pub returns-in_err-handle_each : goal.returns-in_err-handle_each
returns-in_err-handle_each g c = λ line known.
    let client = c.args.visit.client in
    let policy = g.A.App.policy c.args.app.now in
    let ids = g.I.IdSource.stream c.args.ids.now in
    let left = g.I.IdSource.stream c.handle_each.new.ids in
    let worked = c.handle_each.new.scene in
    let state = c.in_err-handle_each.state-1-own.given.0 in
    let new = (c.get_mut.follows.lender c.in_err-handle_each.line-1-own.given.0).entries in
    let made : state ≡ worked.state.now = search rules in
    let kept : c.in_err-handle_each.line-1-own.given.0 ≡ worked.line.now = search rules in
    let others : KeepsOthers client (holding c.args.state.now c.args.lines.now.entries) (holding state new) = search rules in
    let has : line_of new client ≡ Some c.in_err-handle_each.line-1-own.given.0 = search rules in
    let same : c.in-Some.line.now ≡ line = search rules in
    let failed : c.from_residual.result ≡ Err c.in_err-handle_each.field-0.0 = search rules in
    rw failed (ends-with policy c.args.visit.moment client c.args.packets.now line (holding c.args.state.now c.args.lines.now.entries) (holding state new) ids left c.in_err-handle_each.field-0.0 (course (seen worked) left)
    (subst (λ (l : PlainLine). BreaksAfter policy (visit_at client c.args.visit.moment) c.args.packets.now (course (opening c.args.state.now l) ids) c.in_err-handle_each.field-0.0 (course (seen worked) left)) same (rw c.new-tally.ensures at c.in_err-handle_each.ensures.err))
    made (has ∙ ap (λ (l : PlainLine). Some l) kept) others refl)
