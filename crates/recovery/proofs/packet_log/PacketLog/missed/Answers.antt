use Rattle.std.proofs.Common.{ap, sym, ◌∙◌, is_some}
use Rattle.recovery.specs.Missed.{is_for}
use Rattle.recovery.proofs.MissedLemmas.{offsets_of}
use Rattle.recovery.proofs.PacketLogLemmas.{log_later}
use Rattle.recovery.proofs.packet_log.PacketLog.missed.Goals as goal

pub returns-clause-missed : goal.returns-clause-missed
returns-clause-missed c =
    c.in_ok-offsets_for.ensures
    ∙ ap (offsets_of (is_for c.args.space c.args.rooms.now)) (rw c.in_ok-front.ensures.ok_part at c.later.ensures.later)

pub returns-clause-whole : goal.returns-clause-whole
returns-clause-whole c first history is =
    returns-clause-missed c
    ∙ ap (offsets_of (is_for c.args.space c.args.rooms.now))
    (log_later first history c.args.self.now c.args.offset is (sym c.later.ensures.stands ∙ ap is_some c.in_ok-front.ensures.ok_part))
