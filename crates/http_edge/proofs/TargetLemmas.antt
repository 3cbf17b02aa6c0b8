-- A target's parts.
use Rattle.std.proofs.Common.{◌≡◌, ◌+◌, ◌==◌, ℕ, List, [], length, arith, sym, ◌∙◌}
use Rattle.std.specs.List.{position_or_len}
use Rattle.std.proofs.lemmas.List.{take_all, drop_all}
use Rattle.http_edge.specs.Request.{IsTargetOf}

pub no_question : (target path query : List ℕ) → path ≡ target → query ≡ [] → position_or_len (λ b. b == 63) target ≡ length target → IsTargetOf target path query
no_question target path query is none past = (
  is ∙ sym (rw past (take_all (length target) target (omega arith))),
  none ∙ sym (rw past (drop_all (length target + 1) target (omega arith))),
)
