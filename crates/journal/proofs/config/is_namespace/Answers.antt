use Rattle.std.proofs.Common.{◌≡◌, ◌==◌, ◌||◌, nat_lt, rules, tests}
use Rattle.std.specs.List.{list_any}
use Rattle.std.proofs.lemmas.Iterator.{YieldsList-from_slice}
use Rattle.std.proofs.lemmas.Iterator.Search.{any_from_yields_List}
use Rattle.journal.proofs.config.is_namespace.Goals as goal

pub returns-then-starts_with : goal.returns-then-starts_with
returns-then-starts_with c =
    let strange : c.any.result ≡ list_any (λ b. b == 44 || nat_lt b 32) c.args.name.now =
    any_from_yields_List (λ b. b == 44 || nat_lt b 32) _ _ c.any.result c.any.ensures.ran (YieldsList-from_slice c.args.name.now (cc)) (λ x b q k. search (rules, tests)) in
    search (rules, strange)
