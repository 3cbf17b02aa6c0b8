use Rattle.std.proofs.Common.{◌≡◌, ◌<◌, true, false, length, arith}
use Rattle.std.proofs.lemmas.List.{get_or_read}
use Rattle.loop_rules.specs.declared.looks.LookState.TheVariants as state
use Rattle.loop_rules.specs.Looks.{is_queued, is_to_queue}
use Rattle.loop_rules.specs.Rotas.{look_of}
use Rattle.loop_rules.proofs.RotaLemmas.{fits_one, to_queue_isnt_queued}
use Rattle.loop_rules.proofs.roster.Rota.call.Goals as goal

pub push_back_reserved-requires : goal.push_back_reserved-requires
push_back_reserved-requires c =
    let below : c.args.key < length c.self.inside.looks.items = omega arith in
    let at : c.index_mut.result.now ≡ look_of c.self.inside.looks.items c.args.key =
    get_or_read c.self.inside.looks.items c.args.key c.index_mut.result.now below c.index_mut.ensures.value state.Rests in
    let to : is_to_queue c.index_mut.result.now ≡ true = cc in
    let out : is_queued (look_of c.self.inside.looks.items c.args.key) ≡ false =
    rw (← at) (to_queue_isnt_queued c.index_mut.result.now to) in
    let fits = fits_one c.self.inside.looks.items _ _ _ _ c.args.key c.self.invariant below out in
    omega (arith, fits.0)
