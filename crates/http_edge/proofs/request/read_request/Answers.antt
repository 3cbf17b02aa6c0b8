use Rattle.std.proofs.Common.{rules, ◌+◌}
use Rattle.http_edge.proofs.TakenLemmas.{turn_on, ended_early, fed_on, request_of, fault_of, spent_of, one_more_read}
use Rattle.http_edge.proofs.request.read_request.Goals as goal

pub loop-turn-preserved : goal.loop-turn-preserved
loop-turn-preserved g c =
    let on = turn_on c.loop-turn.gathered c.feed.new.self c.feed.result _ _ _ _ (search rules) c.loop-turn.invariant.0 c.in-Ok.ensures.bytes.0
    c.feed.ensures.answer c.feed.ensures.more c.loop-turn.invariant.1 in
    (on.0, on.1, one_more_read c.loop-turn._turn _ _ _ c.loop-turn.invariant.2 c.read.ensures.counted)

pub returns-in_default-clause-counted : goal.returns-in_default-clause-counted
returns-in_default-clause-counted g c = (c.loop-turn._turn + 1, search rules, one_more_read c.loop-turn._turn _ _ _ c.loop-turn.invariant.2 c.read.ensures.counted)

pub returns-then-count-eq0-clause-fault : goal.returns-then-count-eq0-clause-fault
returns-then-count-eq0-clause-fault g c = ended_early _ _ _ _ _ c.in-Ok.count c.if-count-eq0.true c.in-Ok.ensures.bytes.0 c.loop-turn.invariant.1

pub returns-then-count-eq0-clause-counted : goal.returns-then-count-eq0-clause-counted
returns-then-count-eq0-clause-counted g c = (c.loop-turn._turn + 1, search rules, one_more_read c.loop-turn._turn _ _ _ c.loop-turn.invariant.2 c.read.ensures.counted)

pub returns-in_err-request-clause-fault : goal.returns-in_err-request-clause-fault
returns-in_err-request-clause-fault g c =
    let takes = fault_of c.feed.result c.in_err-request.field-0.0 _ _ _ (search rules)
    (fed_on c.loop-turn.gathered c.feed.new.self c.feed.result _ _ _ _ c.in-Ok.ensures.bytes.0 c.feed.ensures.answer c.feed.ensures.more c.loop-turn.invariant.1) in
    search (rules, takes)

pub returns-in_err-request-clause-counted : goal.returns-in_err-request-clause-counted
returns-in_err-request-clause-counted g c =
    (c.loop-turn._turn + 1, search rules, one_more_read c.loop-turn._turn _ _ _ c.loop-turn.invariant.2 c.read.ensures.counted)

pub returns-in-Some-clause-request : goal.returns-in-Some-clause-request
returns-in-Some-clause-request g c =
    request_of c.feed.result _ _ _ _ (search rules)
    (fed_on c.loop-turn.gathered c.feed.new.self c.feed.result _ _ _ _ c.in-Ok.ensures.bytes.0 c.feed.ensures.answer c.feed.ensures.more c.loop-turn.invariant.1)

pub returns-in-Some-clause-counted : goal.returns-in-Some-clause-counted
returns-in-Some-clause-counted g c =
    (c.loop-turn._turn + 1, search rules, one_more_read c.loop-turn._turn _ _ _ c.loop-turn.invariant.2 c.read.ensures.counted)

pub returns-clause-fault : goal.returns-clause-fault
returns-clause-fault g c = spent_of _ _ _ c.loop-turn.invariant.1

pub returns-clause-counted : goal.returns-clause-counted
returns-clause-counted g c = (c.loop-turn._turn, search rules, c.loop-turn.invariant.2)
