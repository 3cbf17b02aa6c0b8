use Rattle.std.proofs.Common.{rules, ◌≡◌, Some, Err, refl, sym, subst}
use Rattle.connection.specs.declared.clock.Due.TheVariants as due
use Rattle.events.specs.Answer.{Answer, at_once}
use Rattle.dispatch.specs.Scene.{visit_of}
use Rattle.dispatch.specs.Answers.{ForVisit}
use Rattle.dispatch.specs.Holding.{line_of, holding, KeepsOthers}
use Rattle.dispatch.specs.Upkeep.{Ticks}
use Rattle.dispatch.proofs.UpkeepLemmas.{ticks, ticked}
use Rattle.dispatch.proofs.clients.tick.Goals as goal

pub returns-in_err-park_or_close-in-PingTimeout : goal.returns-in_err-park_or_close-in-PingTimeout
returns-in_err-park_or_close-in-PingTimeout c =
    let h = c.args.state.now in
    let k = c.park_or_close.new.state in
    let old = c.args.lines.now.entries in
    let new = (c.get_mut.follows.lender c.tick-due.new.self).entries in
    let fault = c.in_err-park_or_close-in-PingTimeout.field-0.0 in
    let known : line_of old c.args.visit.client ≡ Some c.in-Some.line.now = search rules in
    let has : line_of new c.args.visit.client ≡ Some c.tick-due.new.self = search rules in
    let others : KeepsOthers c.args.visit.client (holding h old) (holding k new) = search rules in
    let failed : c.from_residual.result ≡ Err (at_once fault) = search rules in
    let stops = c.in_err-park_or_close-in-PingTimeout.ensures in
    subst (λ (answer : Answer). ForVisit (visit_of c.args.visit) Ticks (holding h old) answer (holding k new)) (sym failed)
    (ticks c.args.visit.moment c.args.visit.client c.in-Some.line.now h old (Err (at_once fault)) (holding k new) c.tick-due.result due.PingTimeout known c.in-PingTimeout.is c.tick-due.ensures.due
    (refl, stops.0, ticked c.args.visit.moment c.args.visit.client c.in-Some.line.now c.tick-due.new.self h k old new c.tick-due.result due.PingTimeout stops.1 has others c.in-PingTimeout.is c.tick-due.ensures.advances))
