use Rattle.std.proofs.Common.{◌∙◌, ap, ◌++◌, ◌∷◌, []}
use Rattle.json.specs.Token.{end_array}
use Rattle.json.specs.Print.{print}
use Rattle.switchboard.specs.Telling.{list_of}
use Rattle.switchboard.proofs.telling.return_text.Goals as goal

pub returns : goal.returns
returns c =
    c.from_string.ensures
    ∙ c.text_of.ensures
    ∙ ap print (c.in_ok-end_array.ensures.ok ∙ ap (λ ts. ts ++ end_array ∷ []) (c.in_ok-write_rooms.ensures.tokens ∙ ap (λ ts. ts ++ list_of c.args.rooms.now) c.in_ok-writer.ensures.tokens))
