use Rattle.std.proofs.Common.{◌≡◌, ◌-◌, ◌∙◌, length, sym, ap, subst, arith}
use Rattle.std.specs.List.{slice_get}
use Rattle.recovery.specs.PacketLog.{IsIndex, HasNone, number_of}
use Rattle.recovery.proofs.PacketLogLemmas.{index_within, none_past, none_before, none_empty}
use Rattle.recovery.proofs.packet_log.PacketLog.index_of.Goals as goal

pub returns-in_default-clause-none : goal.returns-in_default-clause-none
returns-in_default-clause-none c =
    subst (λ v. HasNone c.args.offset v.entries) c.self.view_is (none_empty c.args.offset c.self.inside.latest.entries (sym (ap (λ xs. slice_get xs 0) c.ring.ensures.items) ∙ sym c.in_default.ensures))

pub returns-then-offset-first-clause-none : goal.returns-then-offset-first-clause-none
returns-then-offset-first-clause-none c =
    subst (λ v. HasNone c.args.offset v.entries) c.self.view_is
    (none_before (number_of c.self.inside.next) c.args.offset c.in-Some.first.now c.self.inside.latest.entries c.self.invariant.run (sym (ap (λ xs. slice_get xs 0) c.ring.ensures.items) ∙ sym c.in-Some.ensures)
    (omega (arith, ap (λ e. e.offset) c.first.view_is)))

pub returns-then-index-len-clause-index : goal.returns-then-index-len-clause-index
returns-then-index-len-clause-index c =
    subst (λ v. IsIndex c.args.offset v.entries (c.args.offset - c.first.inside.offset)) c.self.view_is
    (subst (λ e. IsIndex c.args.offset c.self.inside.latest.entries (c.args.offset - e.offset)) (sym c.first.view_is)
    (let same : c.first.inside.offset ≡ c.in-Some.first.now.offset = ap (λ e. e.offset) c.first.view_is in
    index_within (number_of c.self.inside.next) c.args.offset c.in-Some.first.now c.self.inside.latest.entries c.self.invariant.run (sym (ap (λ xs. slice_get xs 0) c.ring.ensures.items) ∙ sym c.in-Some.ensures)
    (omega (arith, same)) (omega (arith, same, c.len.ensures.len, ap length c.ring-2.ensures.items))))

pub returns-else-index-len-clause-none : goal.returns-else-index-len-clause-none
returns-else-index-len-clause-none c =
    subst (λ v. HasNone c.args.offset v.entries) c.self.view_is
    (let same : c.first.inside.offset ≡ c.in-Some.first.now.offset = ap (λ e. e.offset) c.first.view_is in
    none_past (number_of c.self.inside.next) c.args.offset c.in-Some.first.now c.self.inside.latest.entries c.self.invariant.run (sym (ap (λ xs. slice_get xs 0) c.ring.ensures.items) ∙ sym c.in-Some.ensures)
    (omega (arith, same)) (omega (arith, same, c.len.ensures.len, ap length c.ring-2.ensures.items)))
