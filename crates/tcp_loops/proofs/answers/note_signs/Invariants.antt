use Rattle.loop_rules.specs.Pressures.{IsSame}
use Rattle.tcp_loops.proofs.answers.note_signs.Given as goal

-- just the digits of clients are noted
abbrev pub invariant-loop-sign : goal.invariant-loop-sign
invariant-loop-sign l = IsSame l.initial.pressure l.pressure
