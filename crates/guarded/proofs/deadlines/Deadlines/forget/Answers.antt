use Rattle.std.proofs.Common.{rules, ◌∙◌, ap}
use Rattle.std.specs.Prelude.{filter}
use Rattle.std.proofs.lemmas.Map.Made.{filter_same_pairs}
use Rattle.guarded.specs.Deadlines.{stays}
use Rattle.guarded.proofs.deadlines.Deadlines.forget.Goals as goal

pub returns : goal.returns
returns c =
    filter_same_pairs _ (λ e. stays c.args.moment e.1) _ (λ k v b w f' t. search rules) _ _ c.retain.ensures.filtered
    ∙ ap (λ sockets. filter (λ e. stays c.args.moment e.1) sockets) c.self.view_is
