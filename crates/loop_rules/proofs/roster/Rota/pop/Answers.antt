use Rattle.std.proofs.Common.{◌≡◌, ◌++◌, false, ℕ, List, arith, ap}
use Rattle.loop_rules.specs.Looks.{is_queued}
use Rattle.loop_rules.proofs.RotaLemmas.{first_known, popped, begun_isnt_queued}
use Rattle.loop_rules.proofs.roster.Rota.pop.Goals as goal

pub index_mut-requires : goal.index_mut-requires
index_mut-requires c =
    let first = ap (λ (r : List ℕ). r ++ c.self.inside.again.items) c.in_ok-key.ensures.items in
    let below = first_known c.self.inside.looks.items _ c.in_ok-key.key _ _ _ _ c.self.invariant first in
    omega (arith, below)

pub invariant_of-self-2 : goal.invariant_of-self-2
invariant_of-self-2 c =
    let first = ap (λ (r : List ℕ). r ++ c.self.inside.again.items) c.in_ok-key.ensures.items in
    let out : is_queued c.begin.new.self ≡ false = rw c.begin.ensures.state (begun_isnt_queued c.index_mut.result.now) in
    popped c.self.inside.looks.items _ c.in_ok-key.key _ _ _ _ _ _ c.begin.new.self c.self.invariant first out
    (omega (arith, c.in_ok-key.ensures.len)) c.in_ok-key.ensures.capacity
