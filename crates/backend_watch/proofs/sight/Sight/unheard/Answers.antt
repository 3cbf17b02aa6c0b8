use Rattle.std.proofs.Common.{rules, ◌∙◌, ap, ℕ, List, length, filter, Vec, Global}
use Rattle.backend_watch.specs.Receivers.{is_empty}
use Rattle.backend_watch.proofs.FoldLemmas.{count_mapped}
use Rattle.backend_watch.proofs.sight.Sight.unheard.Goals as goal

pub returns : goal.returns
returns c =
    let items : Vec ℕ Global → List ℕ = λ ids. ids.items in
    let all = c.count_empty.ensures ∙ count_mapped items is_empty c.lists_of.result.now ∙ ap (λ lists. length (filter is_empty lists)) c.lists_of.ensures in
    search (rules, all)
