use Rattle.std.proofs.Common.{rules, ◌≡◌, Some}
use Rattle.connection.specs.History.{Upgraded}
use Rattle.dispatch.specs.Holding.{line_of, holding, KeepsOthers}
use Rattle.dispatch.proofs.UpgradeLemmas.{ends-for}
use Rattle.dispatch.proofs.polling.upgrade.Goals as goal

pub returns : goal.returns
returns c = λ h.
    let new = (c.get_mut.follows.lender c.upgrade.new.self).entries in
    let known : line_of c.args.lines.now.entries c.args.client ≡ Some c.in-Some.line.now = search rules in
    let has : line_of new c.args.client ≡ Some c.upgrade.new.self = search rules in
    let others : KeepsOthers c.args.client (holding h c.args.lines.now.entries) (holding h new) = search rules in
    ends-for c.args.client h c.args.lines.now.entries new c.in-Some.line.now c.upgrade.new.self c.answer.result known has others
    Upgraded c.upgrade.result c.upgrade.ensures.reached c.upgrade.ensures.answer c.upgrade.ensures.advances c.upgrade.ensures.unchanged (rw c.nothing.ensures at c.answer.ensures.ok) c.answer.ensures.err
