use Rattle.std.proofs.Common.{◌≡◌, ◌∙◌, ap, set, length, get_or, arith}
use Rattle.std.specs.Prelude.{bit_xor}
use Rattle.tokens.proofs.HmacLemmas.{begun_more, begun_all}
use Rattle.tokens.proofs.keys.padded.Goals as goal

pub loop-index-preserved : goal.loop-index-preserved
loop-index-preserved c =
    let l = c.loop-index in
    let key = c.args.key.now in
    ap (λ b. set b l.index (bit_xor (get_or key l.index 0) c.args.pad)) l.invariant ∙ begun_more key c.args.pad l.index (omega arith) (omega arith)

pub returns : goal.returns
returns c =
    let l = c.loop-index in
    l.invariant ∙ begun_all c.args.key.now c.args.pad l.index (omega arith)
