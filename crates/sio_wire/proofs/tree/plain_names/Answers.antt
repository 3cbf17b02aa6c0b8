use Rattle.std.proofs.Common.{◌≡◌, true≢false, sym, ◌∙◌, arith}
use Rattle.sio_wire.specs.Texts.{AreAlone, BeginsWithName}
use Rattle.sio_wire.proofs.TextsLemmas.{names_at-alone}
use Rattle.sio_wire.proofs.tree.plain_names.Goals as goal

pub returns-else-begins_with_name : goal.returns-else-begins_with_name
returns-else-begins_with_name c = λ plain.
    let payload = c.args.header.now.payload in
    let names = c.in-Some.names.items in
    let alone : AreAlone names payload = rw (c.in-Some.is, c.as_str-payload.ensures) at c.in_ok-names.ensures in
    let same : plain.0 ≡ names = cc (names_at-alone payload names alone, names_at-alone payload plain.0 plain.1.alone) in
    let seen : c.deref.result.now ≡ names = grind arith in
    let begins : BeginsWithName c.deref.result.now = rw (seen, ← same) plain.1.named in
    true≢false (sym (c.begins_with_name.ensures.1 begins) ∙ c.if-begins_with_name.false)
