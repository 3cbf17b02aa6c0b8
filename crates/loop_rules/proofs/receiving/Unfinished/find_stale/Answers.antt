use Rattle.std.proofs.Common.{rules, tests, ap, option_map}
use Rattle.std.proofs.lemmas.Iterator.Consumers.{YieldsList-from_rest}
use Rattle.std.proofs.lemmas.Iterator.Search.{find_from_yields_List}
use Rattle.loop_rules.specs.Deadlines.{has_stopped}
use Rattle.loop_rules.proofs.receiving.Unfinished.find_stale.Goals as goal

pub returns-in-Some : goal.returns-in-Some
returns-in-Some c =
    let found = find_from_yields_List (λ e. has_stopped e.1.moved c.args.now) _ _ c.find.result c.find.ensures.ran
    (YieldsList-from_rest c.args.self.now.parts.entries c.iter-parts.ensures.rest) (λ x b q k. search (rules, tests)) in
    ap (option_map (λ e. e.0)) (rw c.in-Some.is at found)

pub returns-in-None : goal.returns-in-None
returns-in-None c =
    let found = find_from_yields_List (λ e. has_stopped e.1.moved c.args.now) _ _ c.find.result c.find.ensures.ran
    (YieldsList-from_rest c.args.self.now.parts.entries c.iter-parts.ensures.rest) (λ x b q k. search (rules, tests)) in
    ap (option_map (λ e. e.0)) (rw c.in-None.is at found)
