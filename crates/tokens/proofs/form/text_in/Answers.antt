use Rattle.std.proofs.Common.{◌≡◌, ◌∙◌, sym, ap, subst, rules, Ok}
use Rattle.std.specs.Prelude.{Result}
use Rattle.std.specs.Str.{IsUtf8}
use Rattle.std.proofs.lemmas.Str.{IsUtf8-string_bytes}
use Rattle.tokens.specs.Form.{bytes_in}
use Rattle.tokens.proofs.FormLemmas.{text_read, text_bad}
use Rattle.tokens.proofs.form.text_in.Goals as goal

pub returns-in-Ok-from_utf8 : goal.returns-in-Ok-from_utf8
returns-in-Ok-from_utf8 c =
    let bytes = c.in-Ok.sound.items in
    let read : bytes_in c.args.part.now ≡ Ok bytes = search rules in
    let same = ap (λ v. v.items) c.in-Ok-from_utf8.ensures.ok in
    ap Ok (c.from_string.ensures ∙ same) ∙ text_read c.args.part.now bytes read (subst IsUtf8 same (IsUtf8-string_bytes c.in-Ok-from_utf8.text))

pub returns : goal.returns
returns c =
    let bytes = c.in-Ok.sound.items in
    let read : bytes_in c.args.part.now ≡ Ok bytes = search rules in
    text_bad c.args.part.now bytes read (λ utf8. search (rules, c.in-Err-from_utf8.ensures.succeeds utf8))
