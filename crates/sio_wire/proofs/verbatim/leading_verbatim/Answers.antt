use Rattle.std.proofs.Common.{arith, sym, ap, ◌∙◌}
use lib.Count.{count_trailing_zeros}
use Rattle.sio_wire.proofs.LanesLemmas.{run_through, run_stops}
use Rattle.sio_wire.proofs.verbatim.leading_verbatim.Goals as goal

pub returns-then-special-ne0 : goal.returns-then-special-ne0
returns-then-special-ne0 c =
    let special = c.special_among-special in
    let run = run_stops c.args.bytes.now c.loop-count.count (omega arith) (omega (arith, special.ensures)) ∙ ap (count_trailing_zeros 64) (sym special.ensures) in
    omega (arith, run, c.loop-count.invariant.counted)

pub loop-count-preserved : goal.loop-count-preserved
loop-count-preserved c =
    let run = run_through c.args.bytes.now c.loop-count.count (omega arith) (omega (arith, c.special_among-special.ensures)) in
    record { counted = omega (arith, run, c.loop-count.invariant.counted); within = omega arith }
