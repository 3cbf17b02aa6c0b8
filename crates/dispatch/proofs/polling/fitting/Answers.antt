use Rattle.std.proofs.Common.{rules, ℕ, ◌≡◌, ◌∙◌, ap, min, arith, slice_get, Some, None}
use Rattle.std.proofs.lemmas.Option.{slice_get_within}
use Rattle.dispatch.proofs.TakeLemmas.{past-end, size-none, size-more, all-fit, small-fit, front-fits}
use Rattle.dispatch.proofs.polling.fitting.Goals as goal

pub returns-then-used-le-MOST_TAKEN : goal.returns-then-used-le-MOST_TAKEN
returns-then-used-le-MOST_TAKEN c =
    small-fit c.args.most c.args.outbox.now.waiting c.min.result (c.min.ensures ∙ ap (λ (n : ℕ). min c.args.most n) c.len.ensures) (omega (arith, c.used.ensures))

pub loop-index-init : goal.loop-index-init
loop-index-init c = record { sizes = omega (arith, size-none c.args.outbox.now.waiting); few = omega arith }

pub loop-index-preserved : goal.loop-index-preserved
loop-index-preserved c =
    let w = c.args.outbox.now.waiting in
    let found : slice_get w c.loop-index.index ≡ Some c.in-Some.entry.now = search rules in
    record {
      sizes = omega (arith, size-more w c.loop-index.index c.in-Some.entry.now found, c.loop-index.invariant.sizes, c.in-Some-free_after.ensures.some);
      few = omega (arith, slice_get_within w c.loop-index.index c.in-Some.entry.now found);
    }

pub returns-in_default : goal.returns-in_default
returns-in_default c =
    let at = c.loop-index in
    let w = c.args.outbox.now.waiting in
    let none : slice_get w at.index ≡ None = search rules in
    all-fit c.args.most w at.index (omega (arith, past-end w at.index none)) (omega (arith, at.invariant.sizes))

pub returns-in_default-free_after : goal.returns-in_default-free_after
returns-in_default-free_after c =
    let at = c.loop-index in
    let w = c.args.outbox.now.waiting in
    let found : slice_get w at.index ≡ Some c.in-Some.entry.now = search rules in
    rw c.max.ensures (front-fits c.args.most w at.index c.in-Some.entry.now found c.loop-index-test.true (omega (arith, at.invariant.sizes)) (omega (arith, at.invariant.sizes, c.in_default-free_after.ensures.none)))

pub returns : goal.returns
returns c =
    let at = c.loop-index in
    let w = c.args.outbox.now.waiting in
    let end : at.index ≡ c.args.most = omega arith in
    rw (← end) (all-fit at.index w at.index (omega (arith, at.invariant.few)) (omega (arith, at.invariant.sizes)))
