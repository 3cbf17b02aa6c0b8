use Rattle.std.proofs.Common.{◌∙◌, ap, ap₂, ◌++◌, ◌∷◌, []}
use Rattle.json.specs.Token.{string, end_array}
use Rattle.json.specs.Print.{print}
use Rattle.switchboard.specs.Telling.{list_of}
use Rattle.switchboard.proofs.telling.end_text.Goals as goal

pub returns : goal.returns
returns c =
    let word = c.in_ok-string.ensures.ok ∙ ap₂ (λ ts w. ts ++ string w ∷ []) c.in_ok-writer.ensures.tokens c.ending_word.ensures in
    c.from_string.ensures
    ∙ c.text_of.ensures
    ∙ ap print (c.in_ok-end_array.ensures.ok ∙ ap (λ ts. ts ++ end_array ∷ []) (c.in_ok-write_rooms.ensures.tokens ∙ ap (λ ts. ts ++ list_of c.args.rooms.now) word))
