use Rattle.std.proofs.Common.{◌++◌, take, append_assoc, ◌∙◌, ap, sym, arith, codes, string_bytes}
use Rattle.dispatch.specs.Answering.{more_ids, quoted}
use Rattle.dispatch.proofs.AnsweringLemmas.{more_ids-more}
use Rattle.dispatch.proofs.effects.push_more.Goals as goal

pub loop-sid-preserved : goal.loop-sid-preserved
loop-sid-preserved c =
    let before = more_ids (take c.loop-sid.sid-index c.args.sids.now) in
    let one = quoted (codes ",\"") c.sid-item.result in
    rw (c.in_ok-push_id.ensures, c.loop-sid.invariant)
    (append_assoc (string_bytes c.args.text.now) before one
    ∙ ap (λ l. string_bytes c.args.text.now ++ l) (sym (more_ids-more c.args.sids.now c.loop-sid.sid-index c.sid-item.result (omega arith) c.sid-item.is)))
