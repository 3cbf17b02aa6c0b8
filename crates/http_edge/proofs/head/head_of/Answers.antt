use Rattle.std.proofs.Common.{rules, ◌≡◌, ◌∙◌}
use Rattle.http_edge.specs.Reading.{LacksLength}
use Rattle.http_edge.specs.declared.error.EdgeError.TheVariants.{NoLength}
use Rattle.http_edge.proofs.HeadLemmas.{method_is_text, lacks_length}
use Rattle.http_edge.proofs.head.head_of.Goals as goal

pub text_from-requires : goal.text_from-requires
text_from-requires c = rw c.of.ensures (method_is_text _ _ _ c.requires.shown.0 c.requires.shown.1)

pub returns-in_err-body_len-in-POST-clause-unnamed : goal.returns-in_err-body_len-in-POST-clause-unnamed
returns-in_err-body_len-in-POST-clause-unnamed c = λ h at.
    let m : c.as_str.result.now ≡ h.method = c.as_str.ensures.value ∙ c.in_ok-method.ensures ∙ c.of.ensures ∙ at.method in
    let have : c.in_err-body_len-in-POST.field-0.0 ≡ NoLength → LacksLength h =
    λ is. lacks_length h _ _ m at.fields (search rules) (c.in_err-body_len-in-POST.ensures.unnamed is) in
    search (rules, have)
