use Rattle.std.proofs.Common.{◌≡◌, not, rules}
use Rattle.std.specs.List.{list_any}
use Rattle.std.proofs.lemmas.Iterator.{YieldsList-from_slice}
use Rattle.std.proofs.lemmas.Iterator.Search.{any_from_yields_List}
use Rattle.journal.specs.Config.{is_namespace}
use Rattle.journal.proofs.config.Config.is_bad.Goals as goal

pub returns-else-has_repeat-clause-is : goal.returns-else-has_repeat-clause-is
returns-else-has_repeat-clause-is c =
    let strange : c.any.result ≡ list_any (λ name. not (is_namespace name)) c.args.self.now.spaces =
    any_from_yields_List (λ name. not (is_namespace name)) _ _ c.any.result c.any.ensures.ran (YieldsList-from_slice c.args.self.now.spaces (search rules)) (λ x b q k. search rules) in
    search (rules, strange)
