use Rattle.std.proofs.Common.{rules, arith, inr, ◌≡◌, ◌-◌, ◌++◌, ℕ, length, take, min}
use Rattle.http_edge.specs.Head.{IsJudged}
use Rattle.http_edge.specs.Reading.{IsFault, front}
use Rattle.http_edge.specs.LineState.{walk}
use Rattle.http_edge.proofs.OpeningLemmas.{rests_judged, none_ended, unfinished, still_opening, decided, cut_front, begins_ok, fault_err}
use Rattle.http_edge.proofs.request.Opening.step.Goals as goal
use Rattle.http_edge.proofs.request.Opening.step.Goals.{then-is_due+in_ok-judge, else-is_due}

pub judge-requires-clause-unended : goal.judge-requires-clause-unended
judge-requires-clause-unended c =
    let free : ℕ = 16384 - c.len-free.result in
    let walked : c.after_all-after.result ≡ walk c.self.inside.line (take (min free (length c.args.piece.now)) c.args.piece.now) =
    rw c.min.ensures at c.after_all-after.ensures in
    rw (c.deref.ensures.value, c.in_ok-extend_from_slice.ensures.items)
    (none_ended c.self.inside.bytes.items c.args.piece.now c.self.inside.line _ free c.self.invariant c.if-piece-free.true walked (λ e. search (rules, e)))

pub invariant_of-result : goal.invariant_of-result
invariant_of-result c =
    let free : ℕ = 16384 - c.len-free.result in
    let walked : c.after_all-after.result ≡ walk c.self.inside.line (take (min free (length c.args.piece.now)) c.args.piece.now) =
    rw c.min.ensures at c.after_all-after.ensures in
    let judged : IsJudged c.self.inside.line c.args.piece.now c.after_all-after.result (c.self.inside.bytes.items ++ c.args.piece.now) = elim c.if-is_due.branch [
      | then-is_due+in_ok-judge w ↦ inr (inr (rw (w.deref.ensures.value, c.in_ok-extend_from_slice.ensures.items) at w.in_ok-judge.ensures.may))
      | else-is_due w ↦ rests_judged _ _ c.args.piece.now _ (c.is_due.ensures.rests w.if-is_due.false)
    ] in
    rw c.in_ok-extend_from_slice.ensures.items
    (still_opening c.self.inside.bytes.items c.args.piece.now c.self.inside.line _ free c.self.invariant (search rules) c.if-piece-free.true walked
    (λ e. search (rules, e)) judged)

pub returns-then-piece-free : goal.returns-then-piece-free
returns-then-piece-free c =
    let free : ℕ = 16384 - c.len-free.result in
    let walked : c.after_all-after.result ≡ walk c.self.inside.line (take (min free (length c.args.piece.now)) c.args.piece.now) =
    rw c.min.ensures at c.after_all-after.ensures in
    let judged : IsJudged c.self.inside.line c.args.piece.now c.after_all-after.result (c.self.inside.bytes.items ++ c.args.piece.now) = elim c.if-is_due.branch [
      | then-is_due+in_ok-judge w ↦ inr (inr (rw (w.deref.ensures.value, c.in_ok-extend_from_slice.ensures.items) at w.in_ok-judge.ensures.may))
      | else-is_due w ↦ rests_judged _ _ c.args.piece.now _ (c.is_due.ensures.rests w.if-is_due.false)
    ] in (
      rw (← c.self.view_is) (unfinished c.self.inside.bytes.items c.args.piece.now c.self.inside.line _ free c.self.invariant (search rules) c.if-piece-free.true walked
          (λ e. search (rules, e)) judged),
      search rules,
    )

pub filled-requires : goal.filled-requires
filled-requires c =
    let bytes = c.extend_from_slice.new.self.items in
    let len : c.len.result ≡ length c.deref-2.result.now = search rules in
    let cut : take c.min-2.result c.deref-2.result.now ≡ front bytes = rw (c.min-2.ensures, len, c.deref-2.ensures.value) (cut_front bytes) in
    rw c.in_ok-head.was at (begins_ok c.find_head.result bytes (take c.min-2.result c.deref-2.result.now) cut c.find_head.ensures.head)

pub returns-in_err-head : goal.returns-in_err-head
returns-in_err-head c =
    let free : ℕ = 16384 - c.len-free.result in
    let walked : c.after_all-after.result ≡ walk c.self.inside.line (take (min free (length c.args.piece.now)) c.args.piece.now) =
    rw c.min.ensures at c.after_all-after.ensures in
    let is_decided = decided c.eq-ended.result c.self.inside.bytes.items c.args.piece.now c.self.inside.line _ free c.self.invariant (search rules) walked
    (λ e. search (rules, e)) (λ e. search (rules, e)) (λ off. grind (rules, arith, off, c.else-not-ended.either)) in
    let bytes = c.self.inside.bytes.items ++ c.args.piece.now in
    let len : c.len.result ≡ length c.deref-2.result.now = search rules in
    let cut : take c.min-2.result c.deref-2.result.now ≡ front bytes =
    rw (c.min-2.ensures, len, c.deref-2.ensures.value, c.in_ok-extend_from_slice.ensures.items) (cut_front bytes) in
    let fault : IsFault c.in_err-head.field-0.0 bytes =
    rw c.in_err-head.was at (fault_err c.find_head.result c.eq-ended.result bytes (take c.min-2.result c.deref-2.result.now) cut is_decided
    c.find_head.ensures.bad c.find_head.ensures.long c.find_head.ensures.unnamed c.find_head.ensures.too_long c.find_head.ensures.kinds) in
    rw (← c.self.view_is) (search (rules, fault))
