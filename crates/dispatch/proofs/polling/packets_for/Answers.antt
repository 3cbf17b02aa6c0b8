use Rattle.std.proofs.Common.{rules, ◌≡◌, ◌∙◌, ℕ, List, ap, arith, slice_get, take, Some, None}
use Rattle.std.proofs.lemmas.Option.{slice_get_within}
use Rattle.terms.specs.declared.entry.Entry.{Entry}
use Rattle.dispatch.specs.Takes.{carried}
use Rattle.dispatch.proofs.TakeLemmas.{all-taken, carried-more}
use Rattle.dispatch.proofs.polling.packets_for.Goals as goal

pub loop-index-preserved : goal.loop-index-preserved
loop-index-preserved c =
    let w = c.args.outbox.now.waiting in
    let found : slice_get w c.loop-index.index ≡ Some c.in-Some.entry.now = search rules in
    let within = slice_get_within w c.loop-index.index c.in-Some.entry.now found in
    record {
      so_far = c.in_ok-push_entry.ensures ∙ rw c.loop-index.invariant.so_far (carried-more c.args.ping w c.loop-index.index c.in-Some.entry.now found);
      few = omega (arith, within);
    }

pub returns-in_default : goal.returns-in_default
returns-in_default c =
    let at = c.loop-index in
    let w = c.args.outbox.now.waiting in
    let none : slice_get w at.index ≡ None = search rules in
    at.invariant.so_far ∙ ap (λ (entries : List Entry). carried c.args.ping entries) (all-taken w at.index c.args.most none (omega arith))

pub returns : goal.returns
returns c =
    let at = c.loop-index in
    let w = c.args.outbox.now.waiting in
    let end : at.index ≡ c.args.most = omega arith in
    at.invariant.so_far ∙ ap (λ (n : ℕ). carried c.args.ping (take n w)) end
