use Rattle.std.proofs.Common.{rules, sym, refl, arith, ◌≡◌, max}
use Rattle.journal.proofs.SweepLemmas.{puts_swept, swept-hub, can_sweep, dropped-log, dropped-saved}
use Rattle.journal.specs.declared.step.What.TheVariants.{Swept}
use Rattle.recovery.specs.PacketLog.{swept}
use Rattle.recovery.specs.SavedTable.{table_swept}
use Rattle.hub_state.proofs.EndedLemmas.{hub-of, none-ended, plus}
use Rattle.hub_state.proofs.state.State.sweep.Goals as goal

pub invariant_of-self-2 : goal.invariant_of-self-2
invariant_of-self-2 c =
    let log : c.sweep.new.self ≡ swept c.self.inside.log c.self.inside.limits.keep (max c.self.inside.log.last c.max-at.result) = search rules in
    let saved : c.sweep-2.new.self ≡ table_swept c.self.inside.saved c.self.inside.limits.keep c.max-at.result = search rules in
    let hub = hub-of c.self.inside c.self.invariant in
    rw (c.add.ensures.steps, c.add.ensures.last, c.reserve.ensures.same, c.add.ensures.counts)
    (plus (swept-hub _ _ c.args.now _ c.max-at.result _ _ _ _ _ _ _ _ _ _ hub (let s = c.in_ok-may_count.ensures Swept (puts_swept _ _ _) refl (omega arith) in search (rules, s)) (search rules) saved log)
    (none-ended _ _ _ _ c.self.invariant.4 refl))

pub add-requires-clause-counted : goal.add-requires-clause-counted
add-requires-clause-counted c = can_sweep _ _ _ _ c.self.invariant.3 c.self.invariant.2 (let s = c.in_ok-may_count.ensures Swept (puts_swept _ _ _) refl (omega arith) in search (rules, s))

pub returns-clause-counts : goal.returns-clause-counts
returns-clause-counts c =
    let log : c.sweep.new.self ≡ swept c.self.inside.log c.self.inside.limits.keep (max c.self.inside.log.last c.max-at.result) = search rules in
    let saved : c.sweep-2.new.self ≡ table_swept c.self.inside.saved c.self.inside.limits.keep c.max-at.result = search rules in
    rw (← c.self.view_is, c.add.ensures.steps, c.reserve.ensures.same) (
      sym (dropped-log _ _ c.args.now c.self.inside.records.last c.max-at.result _ _ _ _ c.self.invariant.2.log_rises c.self.invariant.0.log_is c.self.invariant.0.log_last (search rules) log c.sweep.ensures.count),
      sym (dropped-saved _ _ c.args.now c.self.inside.records.last c.max-at.result _ _ _ _ c.self.invariant.0.saved_is (search rules) saved c.sweep-2.ensures.count),
    )

pub returns-in_err-may_count-clause-does : goal.returns-in_err-may_count-clause-does
returns-in_err-may_count-clause-does c = let s = c.in_err-may_count.ensures Swept (puts_swept _ _ _) refl (omega arith) in search (rules, s)

pub returns-in_err-reserve-clause-does : goal.returns-in_err-reserve-clause-does
returns-in_err-reserve-clause-does c = let s = c.in_ok-may_count.ensures Swept (puts_swept _ _ _) refl (omega arith) in search (rules, s)

pub returns-clause-does : goal.returns-clause-does
returns-clause-does c = let s = c.in_ok-may_count.ensures Swept (puts_swept _ _ _) refl (omega arith) in search (rules, s)
