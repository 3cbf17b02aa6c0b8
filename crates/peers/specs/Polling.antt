-- The events of a request over HTTP: a GET that waits asks again and again.
use Rattle.std.specs.Prelude.{◌==◌, ◌-◌, ℕ, Bool, true, false, Option, None, Some, Ok, Err, cond}
use Rattle.events.specs.declared.fault.CoreFault.{CoreFault}
use Rattle.events.specs.declared.fault.CoreFault.TheVariants as fault
use Rattle.events.specs.declared.event.Event.{Event}
use Rattle.events.specs.declared.event.Event.TheVariants as event
use Rattle.events.specs.declared.outcome.Outcome.TheVariants as outcome
use Rattle.events.specs.Answer.{Answer}
use Rattle.peers.specs.declared.poll_stage.PollRequest.{PollRequest}
use Rattle.peers.specs.declared.poll_stage.PollRequest.TheVariants as request
use Rattle.peers.specs.declared.poll_stage.PollStage.{PollStage}
use Rattle.peers.specs.declared.poll_stage.PollStage.TheVariants as stage

-- how often a GET that waits asks, at the most
abbrev pub takes : ℕ
takes = 1200

-- ---- what comes next

-- the event of a request
abbrev pub first_of : PollRequest → PollStage × Event
first_of request.Open = (stage.Opening, event.Opened false)
first_of (request.Get c) = (stage.Beginning c, event.PollBegin c)
first_of (request.Post c body) = (stage.Posting c, event.Post c body)

-- a GET asks for up to so many entries, and may ask so often again
abbrev pub asks : ℕ → ℕ → ℕ → PollStage × Event
asks most c left = (stage.Taking c left, event.PollTake c most)

abbrev pub with_event : PollStage × Event → PollStage × Option Event
with_event step = (step.0, Some step.1)

abbrev pub next_of : ℕ → PollStage → PollStage × Option Event
next_of most (stage.First r) = with_event (first_of r)
next_of most (stage.Begun c) = with_event (asks most c (takes - 1))
next_of most (stage.Waits c left) = with_event (asks most c (left - 1))
next_of most (stage.Ends c) = (stage.Ending c, Some (event.PollEnd c))
next_of most other = (other, None)

-- ---- what an answer leads to

abbrev pub after_begin : ℕ → Answer → PollStage
after_begin c (Ok outcome.Begun) = stage.Begun c
after_begin c _ = stage.Over

-- a refusal that passes
abbrev pub waits_on : CoreFault → Bool
waits_on fault.Memory = true
waits_on fault.TooManyClients = true
waits_on fault.IdTaken = true
waits_on fault.Spent = true
waits_on fault.BadEffect = true
waits_on _ = false

-- where an event was refused, a GET that was begun waits on so, or is over
abbrev pub after_refusal : ℕ → CoreFault → PollStage → PollStage
after_refusal c why on = cond (waits_on why) on stage.Over

-- a GET that found nothing asks again, or ends once it has asked so often
abbrev pub waits : ℕ → ℕ → PollStage
waits c left = cond (left == 0) (stage.Ends c) (stage.Waits c left)

abbrev pub after_take : ℕ → ℕ → Answer → PollStage
after_take c left (Ok outcome.Nothing) = waits c left
after_take c left (Ok _) = stage.Over
after_take c left (Err e) = after_refusal c e.fault (waits c left)

abbrev pub after_end : ℕ → Answer → PollStage
after_end c (Ok _) = stage.Over
after_end c (Err e) = after_refusal c e.fault (stage.Ends c)

abbrev pub after : PollStage → Answer → PollStage
after stage.Opening got = stage.Over
after (stage.Posting c) got = stage.Over
after (stage.Beginning c) got = after_begin c got
after (stage.Taking c left) got = after_take c left got
after (stage.Ending c) got = after_end c got
after other got = other

-- ---- what a driver asks

-- a GET that waits, or asks, asks no more
abbrev pub given_up : PollStage → PollStage
given_up (stage.Begun c) = stage.Ends c
given_up (stage.Waits c left) = stage.Ends c
given_up (stage.Taking c left) = stage.Taking c 0
given_up other = other

-- a GET waits that has asked, and may ask again
abbrev pub is_idle : PollStage → Bool
is_idle (stage.Waits c left) = true
is_idle _ = false
