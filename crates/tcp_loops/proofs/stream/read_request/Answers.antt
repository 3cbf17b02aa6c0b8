use Rattle.std.proofs.Common.{rules, ◌++◌}
use Rattle.tcp_loops.proofs.ComesLemmas.{fed_on}
use Rattle.tcp_loops.proofs.stream.read_request.Goals as goal

pub loop-preserved : goal.loop-preserved
loop-preserved c =
    let before = c.loop.invariant.fed in
    let after = c.in_ok-request.ensures.more c.in-None.is in
    record { stays = search rules; fed = (before.0 ++ _, fed_on _ _ _ before.0 _ before.1 after) }
