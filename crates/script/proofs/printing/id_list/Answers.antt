use Rattle.std.proofs.Common.{[], ◌∷◌, take, append_assoc, ◌∙◌, sym, arith}
use Rattle.terms.specs.Ids.{id_digits}
use Rattle.script.specs.ScriptLine.{SPACE}
use Rattle.script.specs.Printing.{ids_text}
use Rattle.script.proofs.PrintingLemmas.{ids_text-more}
use Rattle.script.proofs.printing.id_list.Goals as goal

pub loop-sid-preserved : goal.loop-sid-preserved
loop-sid-preserved c =
    let before = ids_text (take c.loop-sid.sid-index c.args.sids.now) in
    rw (
      c.in_ok-push_str-2.ensures.bytes,
      c.in_ok-push_str.ensures.bytes,
      c.loop-sid.invariant,
      c.ascii_text.ensures,
      c.id_text.ensures.digits,
      c.number.ensures,
    )
    (append_assoc before (SPACE ∷ []) (id_digits c.sid-item.result)
    ∙ sym (ids_text-more c.args.sids.now c.loop-sid.sid-index c.sid-item.result (omega arith) c.sid-item.is))
