-- Two words were drawn, so the ids go on from the third.
use Rattle.std.proofs.Common.{◌≡◌, ap, refl}
use native.Mathlib.Numerals.{unary_clauses}
use Rattle.rand_core.specs.Stream.{next_u64}
use Rattle.tcp_loops.proofs.crew.DrawnIdsIdSource.draw.Goals as goal

pub returns-clause-rest : goal.returns-clause-rest
unfolding next_u64
returns-clause-rest g c =
    let first : g.G.Rng.stream c.next_u64-high.new.self ≡ (next_u64 (g.G.Rng.stream c.args.self.now.random)).1 = ap (λ p. p.1) c.next_u64-high.ensures in
    let second : g.G.Rng.stream c.next_u64-low.new.self ≡ (next_u64 (g.G.Rng.stream c.next_u64-high.new.self)).1 = ap (λ p. p.1) c.next_u64-low.ensures in
    rw (second, first) (simp unary_clauses refl)
