use Rattle.std.proofs.Common.{◌≡◌, ◌<◌, ◌++◌, ◌∷◌, [], length, false, refl, sym, ap, subst, ◌∙◌, arith}
use Rattle.std.proofs.lemmas.List.{drop-drop}
use Rattle.recovery.specs.PacketLog.{fits}
use Rattle.recovery.specs.Latest.{Shelf}
use Rattle.recovery.proofs.LatestLemmas.{newest_next, when_none}
use Rattle.recovery.proofs.packet_log.Latest.make_space.Goals as goal

pub loop-entry-preserved : goal.loop-entry-preserved
loop-entry-preserved c =
    let limit = c.args.self.now.limit in
    let bytes = c.args.self.now.bytes in
    let es = c.args.self.now.entries in
    let within : c.loop-entry._entry < length es = omega (arith, c.loop-entry-test.true, c.len-entry-end.ensures.len, ap (λ (s : Shelf). length s.entries) c.self.view_is) in
    let not_yet = subst (λ (s : Shelf). fits s.limit s.bytes (s.entries ++ c.args.logged.now ∷ []) ≡ false) c.loop-entry.invariant.0
    (when_none c.free_after.result (sym c.if-is_some.ensures) c.free_after.ensures.none) in (
      c.forget_oldest.ensures ∙ rw (c.loop-entry.invariant.0, drop-drop) refl,
      c.loop-entry.invariant.1 ∙ newest_next limit bytes c.loop-entry._entry es c.args.logged.now within not_yet,
    )
