use Rattle.std.proofs.Common.{◌≡◌, ◌∙◌, ap, take}
use Rattle.std.proofs.lemmas.Str.{IsAscii-take}
use Rattle.terms.specs.Ids.{id_digits}
use Rattle.switchboard.proofs.telling.first_digit_room.Goals as goal

pub ascii_text-requires : goal.ascii_text-requires
ascii_text-requires c = IsAscii-take _ 1 c.id_text-id.ensures.ascii

pub returns : goal.returns
returns c =
    let digits : c.id_text-id.result ≡ id_digits c.args.who.now.sid = c.id_text-id.ensures.digits ∙ ap id_digits c.number.ensures in
    c.in-Some.ensures.name ∙ c.ascii_text.ensures ∙ ap (take 1) digits
