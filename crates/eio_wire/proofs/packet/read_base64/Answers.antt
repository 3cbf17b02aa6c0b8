use Rattle.std.proofs.Common.{◌≡◌, Err, inr, refl, sym, ◌∙◌}
use Rattle.base64.specs.GeneralPurpose.{decode_of}
use Rattle.base64.specs.Engines.{standard}
use Rattle.eio_wire.proofs.Base64Lemmas.{standard_strict, base64_text-is, decode_of-base64_text}
use Rattle.eio_wire.proofs.packet.read_base64.Goals as goal

pub returns-in-Ok-clause-ok : goal.returns-in-Ok-clause-ok
returns-in-Ok-clause-ok c = rw (c.from_vec.ensures, base64_text-is) (c.in-Ok.ensures.bytes, sym c.as_bytes.ensures.value ∙ c.in-Ok.ensures.exact standard_strict)

pub returns-in-Err-DecodeError-clause-err : goal.returns-in-Err-DecodeError-clause-err
returns-in-Err-DecodeError-clause-err c = inr (
  refl,
  λ b are is.
      let decoded = decode_of-base64_text _ b are is in
      let failed : decode_of standard c.args.text.now ≡ Err c.in-Err-DecodeError.field-0-0 = rw (← c.as_bytes.ensures.value) (rw c.in-Err-DecodeError.field-0-is at c.in-Err-DecodeError.ensures.err) in
      cc (decoded, failed),
)
