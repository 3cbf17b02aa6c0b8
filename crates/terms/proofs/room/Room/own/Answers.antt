use Rattle.std.proofs.Common.{◌≡◌, length, take, lit≤, sym, ap, ◌∙◌, subst}
use Rattle.std.specs.Str.{IsUtf8}
use Rattle.terms.specs.Hexadecimal.{hex_digits}
use Rattle.terms.proofs.HexadecimalLemmas.{length-hex_digits}
use Rattle.terms.specs.Room.{padded, own_room}
use Rattle.terms.proofs.RoomLemmas.{take-padded, hex_digits-IsUtf8}
use Rattle.terms.proofs.room.Room.own.Goals as goal

pub invariant_of-result : goal.invariant_of-result
invariant_of-result c =
    let id = c.number.result in
    let name : take 32 c.fill-bytes.result ≡ hex_digits 32 id =
    ap (take 32) (c.fill-bytes.ensures ∙ ap padded c.id_text.ensures.digits) ∙ take-padded 32 (hex_digits 32 id) (length-hex_digits 32 id) in
    record {
      short = lit≤ tt;
      whole = ap length name ∙ length-hex_digits 32 id;
      zeros = ap padded (name ∙ sym c.id_text.ensures.digits) ∙ sym c.fill-bytes.ensures;
      text = subst IsUtf8 (sym name) (hex_digits-IsUtf8 32 id);
    }

pub returns : goal.returns
unfolding own_room
returns c =
    ap (take 32) (c.fill-bytes.ensures ∙ ap padded c.id_text.ensures.digits)
    ∙ take-padded 32 (hex_digits 32 c.number.result) (length-hex_digits 32 c.number.result)
    ∙ ap (hex_digits 32) c.number.ensures
