use Rattle.std.proofs.Common.{rules, ◌≡◌, Some}
use Rattle.connection.specs.History.{ProbeLost}
use Rattle.dispatch.specs.Holding.{line_of, holding, KeepsOthers}
use Rattle.dispatch.proofs.UpgradeLemmas.{ends-for}
use Rattle.dispatch.proofs.polling.probe_lost.Goals as goal

pub returns : goal.returns
returns c = λ h.
    let new = (c.get_mut.follows.lender c.probe_lost.new.self).entries in
    let known : line_of c.args.lines.now.entries c.args.client ≡ Some c.in-Some.line.now = search rules in
    let has : line_of new c.args.client ≡ Some c.probe_lost.new.self = search rules in
    let others : KeepsOthers c.args.client (holding h c.args.lines.now.entries) (holding h new) = search rules in
    ends-for c.args.client h c.args.lines.now.entries new c.in-Some.line.now c.probe_lost.new.self c.answer.result known has others
    ProbeLost c.probe_lost.result c.probe_lost.ensures.reached c.probe_lost.ensures.answer c.probe_lost.ensures.advances c.probe_lost.ensures.unchanged (rw c.nothing.ensures at c.answer.ensures.ok) c.answer.ensures.err
