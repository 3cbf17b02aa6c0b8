use Rattle.std.proofs.Common.{◌≡◌, ap, sym, ◌∙◌}
use Rattle.hub_totals.specs.Pass.{PlainHub}
use Rattle.dispatch.specs.Holding.{PlainCore, holding}
use Rattle.dispatch.proofs.EventLaws.{Applied}
use Rattle.dispatch.proofs.HearingLaws.{left-by, does-with}
use Rattle.dispatch.proofs.ServerLemmas.{clean-after, of-some, grown, turned}
use Rattle.dispatch.proofs.event_core.Core.apply.Given.{Over}
use Rattle.dispatch.proofs.event_core.Core.apply.Goals as goal

-- what the event left, and of the whole core as it was
left : (g : Over) (c : goal.After-catch_up g)
    → Applied c.args.event.now (g.I.IdSource.stream c.args.ids.now) c.hear_after-answer.result c.hub.inside.state c.hear_after-answer.new.state c.do_row-said.new.lines.entries
left g c =
    left-by (g.A.App.policy c.args.app.now) c.args.now c.hub.inside.state c.hear_after-answer.new.state
    c.self.inside.lines.entries c.do_row-said.new.lines.entries (rw (← c.hub.view_is) at c.self.invariant.0) (g.I.IdSource.stream c.args.ids.now) (g.I.IdSource.stream c.do_row-said.new.ids)
    c.hear_after-answer.result c.self.inside.told c.args.event.now (rw (← c.hub.view_is) at c.self.invariant.1).names (does-with (g.A.App.policy c.args.app.now) c.args.now c.self.inside.told c.args.event.now (holding c.hub.inside.state c.self.inside.lines.entries) (g.I.IdSource.stream c.args.ids.now)
    c.do_row-said.result c.do_row-said.new.state c.hear_after-answer.result (holding c.hear_after-answer.new.state c.do_row-said.new.lines.entries) (g.I.IdSource.stream c.do_row-said.new.ids)
    c.ended_sockets-ended.result.now c.client.result c.do_row-said.ensures c.ended_sockets-ended.ensures.all c.client.ensures c.hear_after-answer.ensures)

pub catch_up-requires-clause-grown : goal.catch_up-requires-clause-grown
catch_up-requires-clause-grown g c =
    let some = of-some c.args.event.now (g.I.IdSource.stream c.args.ids.now) in
    let left =
    left-by (g.A.App.policy c.args.app.now) c.args.now c.hub.inside.state c.hear_after-answer.new.state
    c.self.inside.lines.entries c.do_row-said.new.lines.entries (rw (← c.hub.view_is) at c.self.invariant.0) (g.I.IdSource.stream c.args.ids.now) (g.I.IdSource.stream c.do_row-said.new.ids)
    c.hear_after-answer.result c.self.inside.told c.args.event.now (rw (← c.hub.view_is) at c.self.invariant.1).names (does-with (g.A.App.policy c.args.app.now) c.args.now c.self.inside.told c.args.event.now (holding c.hub.inside.state c.self.inside.lines.entries) (g.I.IdSource.stream c.args.ids.now)
    c.do_row-said.result c.do_row-said.new.state c.hear_after-answer.result (holding c.hear_after-answer.new.state c.do_row-said.new.lines.entries) (g.I.IdSource.stream c.do_row-said.new.ids)
    c.ended_sockets-ended.result.now c.client.result c.do_row-said.ensures c.ended_sockets-ended.ensures.all c.client.ensures c.hear_after-answer.ensures) in
    grown some.0 c.hub.inside.state c.hear_after-answer.new.state (left.turns some.0 some.1) c.hub.inside.books.commands c.hub.inside.books.taken c.hub.invariant.0 c.hub.invariant.1

pub invariant_of-self : goal.invariant_of-self
invariant_of-self g c =
    let some = of-some c.args.event.now (g.I.IdSource.stream c.args.ids.now) in
    ((left g c).agrees, clean-after some.0 c.hub.inside.state c.hear_after-answer.new.state (rw (← c.hub.view_is) at c.self.invariant.1) ((left g c).turns some.0 some.1))

pub returns-clause-does : goal.returns-clause-does
returns-clause-does g c = rw (← c.self.view_is) (rw (← c.hub.view_is) (does-with (g.A.App.policy c.args.app.now) c.args.now c.self.inside.told c.args.event.now (holding c.hub.inside.state c.self.inside.lines.entries) (g.I.IdSource.stream c.args.ids.now)
    c.do_row-said.result c.do_row-said.new.state c.hear_after-answer.result (holding c.hear_after-answer.new.state c.do_row-said.new.lines.entries) (g.I.IdSource.stream c.do_row-said.new.ids)
    c.ended_sockets-ended.result.now c.client.result c.do_row-said.ensures c.ended_sockets-ended.ensures.all c.client.ensures c.hear_after-answer.ensures))

pub returns-clause-handed : goal.returns-clause-handed
returns-clause-handed g c =
    let same : c.hub.inside.state ≡ c.args.self.now.hub.history = ap (λ (h : PlainHub). h.history) c.hub.view_is ∙ ap (λ (k : PlainCore). k.hub.history) c.self.view_is in
    rw (← same) (left g c).hands

pub returns-clause-turns : goal.returns-clause-turns
returns-clause-turns g c = λ d of.
    turned d c.args.self.now.hub c.hub.inside.state c.hear_after-answer.new.state c.hub.inside.books c.catch_up.new.self c.args.pass.now c.catch_up.new.pass
    (sym (c.hub.view_is ∙ ap (λ (k : PlainCore). k.hub) c.self.view_is)) ((left g c).turns d of) c.hub.invariant.0 c.hub.invariant.1 c.catch_up.ensures.books c.catch_up.ensures.pass

pub returns-clause-spares : goal.returns-clause-spares
returns-clause-spares g c =
    let same : c.hub.inside.state ≡ c.args.self.now.hub.history = ap (λ (h : PlainHub). h.history) c.hub.view_is ∙ ap (λ (k : PlainCore). k.hub.history) c.self.view_is in
    rw (← same) (left g c).spares
