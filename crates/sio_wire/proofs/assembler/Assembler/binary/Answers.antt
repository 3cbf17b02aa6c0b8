use Rattle.std.proofs.Common.{◌≡◌, ◌++◌, ◌∷◌, [], sym, ◌∙◌}
use Rattle.sio_wire.specs.declared.assembler.Progress.TheVariants.{Waiting}
use Rattle.sio_wire.proofs.FramesLemmas.{Accepts-kept, BeginsPacket-more, from_OnOk}
use Rattle.sio_wire.proofs.assembler.Assembler.binary.Goals as goal

pub returns-clause-accepted : goal.returns-clause-accepted
returns-clause-accepted c =
    let packet = c.in-Waiting-replace.packet in
    let old : c.args.self.now ≡ Waiting packet = sym c.self.view_is ∙ (sym c.replace.ensures.value ∙ c.in-Waiting-replace.is) in
    let pushed : c.push.new.self ≡ packet.attachments ++ c.args.bytes.now ∷ [] =
    rw c.in_ok-attachment-in-Waiting.ensures at (from_OnOk _ c.push.result (sym c.if-is_err.ensures.value) c.push.ensures.ok) in
    Accepts-kept _ _ _ _ _ (λ rest kept. BeginsPacket-more rest _ _ _ _ pushed (rw old at kept).begins) c.keep.ensures
