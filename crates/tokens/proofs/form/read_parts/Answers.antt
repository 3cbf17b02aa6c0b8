use Rattle.std.proofs.Common.{◌≡◌, ◌∙◌, ◌+◌, ◌∷◌, ◌++◌, sym, ap, take, length, Ok}
use Rattle.tokens.specs.Form.{cut, text_in, bytes_in}
use Rattle.tokens.specs.Steps.{seen_by}
use Rattle.tokens.proofs.FormLemmas.{signed_front, parts_made, opened_made}
use Rattle.tokens.proofs.form.read_parts.Goals as goal

pub returns : goal.returns
returns c =
    let token = c.args.token.now in
    let header = c.in-Ok.sound.0.now in
    let rest = c.in-Ok.sound.1.now in
    let claims = c.in-Ok-cut.sound.0.now in
    let signature = c.in-Ok-cut.sound.1.now in
    let first : cut token ≡ Ok (header, rest) = sym c.in-Ok.ensures.value in
    let second : cut rest ≡ Ok (claims, signature) = sym c.in-Ok-cut.ensures.value in
    let whole : token ≡ header ++ 46 ∷ rest = c.in-Ok.ensures.whole in
    let whole_too : rest ≡ claims ++ 46 ∷ signature = c.in-Ok-cut.ensures.whole in
    let head_text : Ok c.in-Ok-2.sound ≡ text_in header = sym c.in-Ok-2.is ∙ c.in_ok-sound.ensures in
    let claims_text : Ok c.in-Ok-3.sound ≡ text_in claims = sym c.in-Ok-3.is ∙ c.in_ok-sound-2.ensures in
    let bytes : Ok c.in-Ok-4.sound.items ≡ bytes_in signature = sym (ap (λ r. seen_by (λ v. v.items) r) c.in-Ok-4.is) ∙ c.in_ok-sound-3.ensures in
    opened_made token header claims signature _ _ _ _
    (parts_made token header rest claims signature _ first second
    (ap (λ t. take (length header + 1 + length claims) t) c.as_bytes.ensures.value ∙ signed_front token header rest claims signature whole whole_too))
    head_text claims_text bytes
