use Rattle.std.proofs.Common.{arith, refl}
use Rattle.std.proofs.lemmas.Str.Parse.{parse_gives, digits_value_short}
use Rattle.sio_wire.proofs.DigitsLemmas.{own}
use Rattle.sio_wire.proofs.header.number_of.Goals as goal

pub unwrap-requires : goal.unwrap-requires
unwrap-requires c =
    let digits = c.args.digits.now in
    let small = digits_value_short own digits 15 c.requires.digits c.requires.few in
    let read = parse_gives own 64 digits _ c.parse.ensures.value.0 c.requires.digits c.requires.some (omega (arith, small)) in
    rw read refl
