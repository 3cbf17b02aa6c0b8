use Rattle.std.proofs.Common.{rules, ◌≡◌, ℕ, ◌==◌, true, false, None, is_some, sym, ◌∙◌, refl, arith}
use Rattle.std.proofs.lemmas.Grind.{common_steps}
use Rattle.journal.specs.declared.step.What.TheVariants as what
use Rattle.dispatch.specs.Commands.{StopsAt}
use Rattle.dispatch.specs.Holding.{line_of}
use Rattle.dispatch.proofs.TurnLemmas.{not-again, put-forgotten}
use Rattle.dispatch.proofs.clients.open.Goals as goal

pub returns-in-Some : goal.returns-in-Some
returns-in-Some c =
    let has : is_some (line_of c.args.lines.now.entries c.args.visit.client) ≡ true = search rules in
    (rw c.at_once.ensures (not-again c.args.state.now c.args.visit.moment c.args.visit.client (sym (c.requires c.args.visit.client) ∙ has)), (rw c.at_once.ensures refl, refl, λ d. refl))

pub returns-in-Err : goal.returns-in-Err
returns-in-Err c =
    let client = c.args.visit.client in
    let old = c.args.lines.now.entries in
    let none : line_of old client ≡ None = search rules in
    let others : (d : ℕ) → client == d ≡ false → line_of c.insert.new.self.entries d ≡ line_of old d = search rules in
    let stops : StopsAt c.args.state.now c.args.visit.moment (what.Opened c.args.visit.client) c.from.result = grind (arith, common_steps) in
    (rw c.at_once-in-Err.ensures stops, (rw c.at_once-in-Err.ensures refl, search rules, put-forgotten client old c.insert.new.self.entries c.forget.new.lines.entries none c.forget.ensures.gone others c.forget.ensures.others))
