use Rattle.std.proofs.Common.{ℕ, ◌≡◌, ◌==◌, not, List, ◌∷◌, [], ◌++◌, filter, ◌∙◌, ap, rules}
use Rattle.journal.specs.Plain.{PlainCastDone}
use Rattle.dispatch.proofs.effects.broadcast.Goals as goal

pub returns : goal.returns
returns c =
    let there = c.in_ok-cast_done.ensures.does in
    let ids = c.retain_others.ensures ∙ ap (λ (done : PlainCastDone). filter (λ d. not (d == c.args.visit.client)) done.clients) c.cast_done.view_is in
    let lists = c.push.ensures ∙ ap (λ (lists : List (List ℕ)). lists ++ c.retain_others.new.ids.items ∷ []) c.reserve.ensures.same in
    (there.0, c.in_ok-cast_done.cast_done, there.1, rw (← c.done.view_is, lists, ids, c.saturating_add-done-inside.ensures) (search rules))
