use Rattle.terms.proofs.HexadecimalLemmas.{IsAscii-hex_digits}
use Rattle.sio_wire.proofs.header.push_offset.Goals as goal

pub ascii_text-requires : goal.ascii_text-requires
ascii_text-requires c = rw c.write_digits.ensures (IsAscii-hex_digits 16 _)
