use Rattle.std.proofs.Common.{◌∙◌, is_ok, refl, arith, ap}
use Rattle.loop_rules.specs.Rotas.{Waiting, look_of}
use Rattle.loop_rules.proofs.RotaLemmas.{look_pushed, grown}
use Rattle.loop_rules.proofs.roster.Rota.admit.Goals as goal

pub returns-clause-same : goal.returns-clause-same
returns-clause-same c k =
    look_pushed (is_ok c.push.result) c.self.inside.looks.items c.push.new.self.items k c.push.ensures.items
    ∙ ap (λ (w : Waiting). look_of w.looks k) c.self.view_is

pub invariant_of-self-2 : goal.invariant_of-self-2
invariant_of-self-2 c =
    grown (is_ok c.push.result) c.self.inside.looks.items c.push.new.self.items _ _ _ _ _ _ _ _ c.self.invariant
    c.push.ensures.items
    (rw (c.reserve.ensures.same.0, c.reserve-else-not-reserve.ensures.same.0) refl)
    (omega (arith, c.reserve.ensures.same.1, c.reserve-else-not-reserve.ensures.same.1))
    (omega (arith, c.reserve.ensures.fits (cc (c.if-not-reserve.false)), c.saturating_add-most.ensures, c.len-count.ensures))
    (omega (arith, c.reserve-else-not-reserve.ensures.fits (cc (c.if-not-reserve-2.false)), c.saturating_add-most.ensures, c.len-count.ensures))
