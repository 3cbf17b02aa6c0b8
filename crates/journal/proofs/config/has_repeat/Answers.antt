use Rattle.std.proofs.Common.{◌≡◌, ◌∙◌, bytes_eq, false, sym, rules}
use Rattle.std.specs.List.{list_any}
use Rattle.std.proofs.lemmas.Iterator.{YieldsList-from_slice}
use Rattle.std.proofs.lemmas.Iterator.Search.{any_from_yields_List}
use Rattle.journal.proofs.config.has_repeat.Goals as goal

pub loop-name-preserved : goal.loop-name-preserved
loop-name-preserved c =
    let none : list_any (bytes_eq c.in-Some.name.now) c.in-Some.others.now ≡ false =
    sym (any_from_yields_List (bytes_eq c.in-Some.name.now) _ _ c.any.result c.any.ensures.ran (YieldsList-from_slice c.in-Some.others.now (cc)) (λ x b q k. search rules)) ∙ c.if-any.false in
    search (rules, none)
