use Rattle.std.proofs.Common.{◌≡◌, append_assoc, string_bytes, refl}
use Rattle.eio_wire.specs.Handshake.{open_packet_text, open_packet_with, upgrades_of}
use Rattle.eio_wire.proofs.handshake.open_text.Goals as goal
use Rattle.eio_wire.proofs.handshake.open_text.Goals.{then-polling, else-polling}

pub returns-clause-ok : goal.returns-clause-ok
unfolding open_packet_text
returns-clause-ok c =
    let told : string_bytes c.in_ok-text.text ≡ open_packet_with c.ascii_text-id.result.now c.if-polling.upgrades.now c.args.numbers.now = simp append_assoc c.in_ok-text.ensures.ok in
    let upgrades : c.if-polling.upgrades.now ≡ upgrades_of c.args.polling = elim c.if-polling.branch [
      | then-polling w ↦ rw (w.upgrades-is, w.if-polling.true) refl
      | else-polling w ↦ rw (w.upgrades-is, w.if-polling.false) refl
    ] in
    rw (← c.id_text-digits.ensures.digits, ← c.ascii_text-id.ensures, ← upgrades) told
