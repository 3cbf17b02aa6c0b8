use Rattle.std.proofs.Common.{◌≡◌, map, take, []}
use Rattle.metrics.specs.Counting as counting
use Rattle.metrics.proofs.metrics.Metrics.new.Given as goal

abbrev pub invariant-loop-number : goal.invariant-loop-number
invariant-loop-number l =
    (l.counts.core ≡ counting.nothing)
    × (l.counts.loops.items ≡ counting.nothing_of l.number)
    × (l.counts.refused.items ≡ [])
    × (l.counts.paced ≡ 0)

abbrev pub invariant-loop-reason : goal.invariant-loop-reason
invariant-loop-reason l =
    (l.counts.core ≡ counting.nothing)
    × (l.counts.loops.items ≡ counting.nothing_of l.loops)
    × (l.counts.refused.items ≡ map counting.nothing_for (take l.reason-index l.reason-items))
    × (l.counts.paced ≡ 0)
