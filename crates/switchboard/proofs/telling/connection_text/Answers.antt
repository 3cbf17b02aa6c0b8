use Rattle.std.proofs.Common.{◌∙◌, ap, ◌++◌, ◌∷◌, []}
use Rattle.std.specs.Prelude.{codes}
use Rattle.json.specs.Token.{null}
use Rattle.json.specs.Print.{print}
use Rattle.switchboard.specs.Telling.{with_element}
use Rattle.switchboard.proofs.telling.connection_text.Goals as goal

pub returns : goal.returns
returns c =
    let begun = c.text_of-text.ensures ∙ ap print (c.in_ok-null.ensures.ok ∙ ap (λ ts. ts ++ null ∷ []) c.in_ok-writer.ensures.tokens) in
    let said = c.in_ok-push_element.ensures ∙ ap (λ t. with_element t c.args.payload.now) begun in
    let verified = c.in_ok-push_element-2.ensures ∙ ap (λ t. with_element t c.args.claims.now) said in
    c.from_string.ensures ∙ c.in_ok-push_str.ensures.bytes ∙ ap (λ t. t ++ codes "]") verified
