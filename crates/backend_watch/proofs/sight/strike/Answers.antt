use Rattle.std.proofs.Common.{rules, not, ◌==◌}
use Rattle.std.proofs.lemmas.Fn.{filter_same}
use Rattle.backend_watch.proofs.sight.strike.Goals as goal

pub returns : goal.returns
returns c = filter_same _ (λ pressed. not (pressed.client == c.args.client)) _ (λ x b f k. search rules) _ _ c.retain.ensures.filtered
