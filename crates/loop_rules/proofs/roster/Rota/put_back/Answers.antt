use Rattle.std.proofs.Common.{◌≡◌, ◌<◌, true, false, length, arith, ap, sym, ◌∙◌}
use Rattle.loop_rules.specs.Looks.{is_queued}
use Rattle.loop_rules.specs.Rotas.{Waiting, look_of, has_stint}
use Rattle.loop_rules.proofs.RotaLemmas.{fits_one, marked, stint_known, stint_isnt_queued}
use Rattle.loop_rules.proofs.roster.Rota.put_back.Goals as goal

pub index_mut-requires : goal.index_mut-requires
index_mut-requires c =
    let below = stint_known c.self.inside.looks.items c.args.key (rw (ap (λ (w : Waiting). w.looks) c.self.view_is) c.requires) in
    omega (arith, below)

pub push_back_reserved-requires : goal.push_back_reserved-requires
push_back_reserved-requires c =
    let stint : has_stint (look_of c.self.inside.looks.items c.args.key) ≡ true = rw (ap (λ (w : Waiting). w.looks) c.self.view_is) c.requires in
    let below : c.args.key < length c.self.inside.looks.items = stint_known c.self.inside.looks.items c.args.key stint in
    let out : is_queued (look_of c.self.inside.looks.items c.args.key) ≡ false =
    stint_isnt_queued (look_of c.self.inside.looks.items c.args.key) stint in
    let fits = fits_one c.self.inside.looks.items _ _ _ _ c.args.key c.self.invariant below out in
    omega (arith, fits.1)

pub invariant_of-self-else-is_queued : goal.invariant_of-self-else-is_queued
invariant_of-self-else-is_queued c =
    let stint : has_stint (look_of c.self.inside.looks.items c.args.key) ≡ true = rw (ap (λ (w : Waiting). w.looks) c.self.view_is) c.requires in
    let below : c.args.key < length c.self.inside.looks.items = stint_known c.self.inside.looks.items c.args.key stint in
    let out : is_queued (look_of c.self.inside.looks.items c.args.key) ≡ false =
    stint_isnt_queued (look_of c.self.inside.looks.items c.args.key) stint in
    let isnt : is_queued c.args.look ≡ false = rw (← c.is_queued.ensures) c.if-is_queued.false in
    marked c.self.inside.looks.items _ _ _ _ c.args.key c.args.look c.self.invariant below (isnt ∙ sym out)
