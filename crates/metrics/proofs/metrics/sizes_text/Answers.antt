use Rattle.std.proofs.Common.{refl}
use Rattle.metrics.proofs.metrics.sizes_text.Goals as goal

pub returns : goal.returns
returns c = rw (c.in_ok-push_row-5.ensures, c.in_ok-push_row-4.ensures, c.in_ok-push_row-3.ensures, c.in_ok-push_row-2.ensures, c.in_ok-push_row.ensures, c.new-text.ensures.bytes) refl
