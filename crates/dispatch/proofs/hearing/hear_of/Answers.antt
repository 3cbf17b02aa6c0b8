use Rattle.std.proofs.Common.{◌≡◌, ◌∙◌, get_or, slice_get, Option, Some, List, [], ap, inr, rules, sym}
use Rattle.std.specs.Prelude.{unwrap_or}
use Rattle.hub_state.specs.EndedSockets.{PlainEnded}
use Rattle.dispatch.proofs.RunsLemmas.{get-read}
use Rattle.dispatch.proofs.hearing.hear_of.Goals as goal

pub returns : goal.returns
returns g c = λ gone is.
    let h = c.args.state.now in
    let it = c.index-ended_sockets-index.result in
    let at : slice_get c.ended_sockets.result.now c.args.index ≡ Some it = get-read c.ended_sockets.result.now c.args.index it (rw c.ended_sockets.ensures.all c.requires) c.index-ended_sockets-index.is in
    let same : gone ≡ it = ap (λ (o : Option PlainEnded). unwrap_or o it) (sym is ∙ ap (λ (xs : List PlainEnded). slice_get xs c.args.index) (sym c.ended_sockets.ensures.all) ∙ at) in
    let name : c.in_ok-copy_of.field-0 ≡ get_or h.limits.spaces it.socket.space [] = search rules in
    rw same (inr (c.in_ok-effects.effects.items, search rules, c.in_ok-effects.ensures.clean, c.send_all.ensures))
