use Rattle.std.proofs.Common.{rules}
use Rattle.script.proofs.HexadecimalLemmas.{not_bytes, other_digits}
use Rattle.script.proofs.notices.bytes_of.Goals as goal

pub returns-in-Err-2-clause-none : goal.returns-in-Err-2-clause-none
returns-in-Err-2-clause-none c = not_bytes c.args.text.now c.in-Err.fault c.is_memory.result c.in-Err.ensures.err c.is_memory.ensures c.if-is_memory.false

pub returns-else-eq-clause-none : goal.returns-else-eq-clause-none
returns-else-eq-clause-none c = other_digits c.args.text.now c.in-Ok.bytes.items c.in-Ok.ensures.ok (λ same. search rules)
