use Rattle.std.proofs.Common.{◌≡◌, ◌≤◌, ◌∙◌, ap, sym, subst, ◌∷◌, arith, rules, Some}
use Rattle.std.specs.Arc.{arc_value}
use Rattle.recovery.specs.PacketLog.{LogContents, PlainLogged, IsLog, IsLogOf, Pushed, with_entry, logged_as, latest, contents}
use Rattle.recovery.proofs.PacketLogLemmas.{log_grown, log_pushed}
use Rattle.recovery.proofs.packet_log.PacketLog.push.Goals as goal

-- the fields at the end
abbrev fields : goal.After-add → LogContents
fields c = contents c.add.new.self.limit c.add.new.self.bytes c.checked_add-self-inside.result c.max-at.result c.add.new.self.entries

abbrev entry : goal.After-add → PlainLogged
entry c = logged_as c.args.self.now c.in_ok-offset.offset c.args.at c.args.space c.args.rooms.items c.args.excepted.items (arc_value c.args.entry)

same : (c : goal.After-add) → fields c ≡ with_entry c.args.self.now (entry c)
same c = search rules

was : (c : goal.After-add) → IsLog c.args.self.now
was c = subst IsLog c.self.view_is c.self.invariant

next : (c : goal.After-add) → c.args.self.now.next ≡ Some c.in_ok-offset.offset
next c = sym (ap (λ (v : LogContents). v.next) c.self.view_is) ∙ c.in_ok-offset.ensures.ok_part

pub invariant_of-self : goal.invariant_of-self
invariant_of-self c =
    subst IsLog (sym (same c)) (log_grown c.args.self.now (entry c) (was c) (next c) (omega arith) (omega arith))

pub returns-clause-leads : goal.returns-clause-leads
returns-clause-leads c first history is =
    let late : latest history ≤ (entry c).at = omega (arith, is.last) in
    subst (IsLogOf first (Pushed (entry c) ∷ history)) (sym (same c)) (log_pushed first history c.args.self.now (entry c) is late (next c))
