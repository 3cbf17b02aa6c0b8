use Rattle.std.proofs.Common.{rules, ◌≡◌, Some}
use Rattle.std.specs.Prelude.{codes}
use Rattle.dispatch.specs.Holding.{line_of, holding, KeepsOthers}
use Rattle.dispatch.proofs.UpgradeLemmas.{probes-for}
use Rattle.dispatch.proofs.polling.probe.Goals as goal

pub returns : goal.returns
returns c = λ h.
    let new = (c.get_mut.follows.lender c.probe.new.self).entries in
    let known : line_of c.args.lines.now.entries c.args.client ≡ Some c.in-Some.line.now = search rules in
    let has : line_of new c.args.client ≡ Some c.probe.new.self = search rules in
    let others : KeepsOthers c.args.client (holding h c.args.lines.now.entries) (holding h new) = search rules in
    let text : c.in-Ok.text ≡ codes "3probe" = search rules in
    probes-for c.args.client h c.args.lines.now.entries new c.in-Some.line.now c.probe.new.self c.answer.result known has others
    c.in-Ok.text text c.probe.result c.probe.ensures.reached c.probe.ensures.answer c.probe.ensures.advances c.probe.ensures.unchanged c.answer.ensures.ok c.answer.ensures.err
