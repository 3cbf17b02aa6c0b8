use Rattle.std.proofs.Common.{arith, ◌≡◌, ◌<◌, get_or, length, ◌==◌, false}
use Rattle.std.proofs.lemmas.Bool.Decides.{nat_tests}
use Rattle.std.proofs.lemmas.Str.{lead_after_ascii}
use Rattle.eio_wire.proofs.packet.split_type.Goals as goal

pub range_from-requires : goal.range_from-requires
range_from-requires c =
    let text = c.args.text.now in
    let ascii : get_or text 0 0 < 128 = rw c.as_bytes.ensures.value at c.if-kind-ge128.false in
    let tested : (length text == 0) ≡ false = cc (c.is_empty.ensures, c.if-is_empty.false) in
    let within : 0 < length text = grind (arith, nat_tests, tested) in
    λ _. (omega arith, λ more high. lead_after_ascii text 0 c.utf8.text ascii more high)
