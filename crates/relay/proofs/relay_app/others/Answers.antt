use Rattle.std.proofs.Common.{rules, ◌∙◌, ap, not}
use Rattle.std.proofs.lemmas.Fn.{filter_same}
use Rattle.terms.specs.Room.{same_room}
use Rattle.relay.specs.Presence.{others}
use Rattle.relay.proofs.relay_app.others.Goals as goal

pub returns : goal.returns
returns c =
    filter_same _ (λ room. not (same_room room c.args.own)) _ (λ x b f k. search rules) _ _ c.retain.ensures.filtered
    ∙ ap (others c.args.own) c.in_ok-others.ensures.items
