use Rattle.std.proofs.Common.{ℕ, ◌+◌, ◌-◌, ◌++◌, List, drop, take, length, ap, sym, ◌∙◌}
use Rattle.recovery.specs.PacketLog.{PlainLogged}
use Rattle.recovery.proofs.MissedLemmas.{drop_pieces, rest_from}
use Rattle.recovery.proofs.packet_log.PacketLog.later.Goals as goal

pub returns-clause-later : goal.returns-clause-later
returns-clause-later c =
    let past : ℕ = c.in_ok-past.field-0 + 1 in
    let front : List PlainLogged = c.as_slices.result.0.now in
    let back : List PlainLogged = c.as_slices.result.1.now in
    let split : ℕ = c.min-split.result in
    ap (λ (xs : List PlainLogged). take (length front - split) (drop split front) ++ xs) (rest_from (past - split) back)
    ∙ ap (λ (xs : List PlainLogged). xs ++ drop (past - split) back) (rest_from split front)
    ∙ ap (λ (m : ℕ). drop m front ++ drop (past - m) back) c.min-split.ensures
    ∙ sym (drop_pieces past front back)
    ∙ ap (drop past) (c.as_slices.ensures ∙ c.ring.ensures.items ∙ ap (λ v. v.entries) c.self.view_is)
    ∙ sym c.in_ok-past.ensures.index.later
