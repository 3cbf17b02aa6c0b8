-- How far the warden is with its client, and what each answer leads to.
use Rattle.std.specs.Prelude.{ℕ, ◌+◌, ◌%◌, ◌==◌, ◌&&◌, min, nat_le, Bool, true, false, not, is_some, if◌then◌else◌, bytes_eq, codes, List, [], ◌∷◌, Option, None, Some, Ok, Err}
use Rattle.events.specs.declared.event.WsFrame.{WsFrame}
use Rattle.events.specs.declared.event.WsFrame.TheVariants as frame
use Rattle.events.specs.declared.fault.CoreFault.{CoreFault}
use Rattle.events.specs.declared.fault.CoreFault.TheVariants as fault
use Rattle.events.specs.declared.outcome.Outcome.TheVariants as outcome
use Rattle.events.specs.Answer.{Answer}
use Rattle.tcp_server.specs.declared.warden.Heard.{Heard}
use Rattle.tcp_server.specs.declared.warden.Heard.TheVariants.{Opened, Took, Worked, Lost, Refused, Other}
use Rattle.tcp_server.specs.declared.warden.Stage.{Stage}
use Rattle.tcp_server.specs.declared.warden.Stage.TheVariants.{Opens, Joins, Takes, Answers, Ends}
use Rattle.tcp_server.specs.declared.warden.Task.{Task}
use Rattle.tcp_server.specs.declared.warden.Task.TheVariants.{Looks, Strikes, Begins, TellsLoss, WakesAll}
use Rattle.tcp_server.specs.declared.warden.Progress.{Progress}

-- ---- what it hears

-- a ping is the text `2` (Engine.IO protocol 4, "Protocol")
abbrev pub is_ping : WsFrame → Bool
is_ping (frame.Text text) = bytes_eq text (codes "2")
is_ping (frame.Bytes bytes) = false

-- one goes first
abbrev pub has_ping : List WsFrame → Bool
has_ping [] = false
has_ping (first ∷ others) = is_ping first

abbrev pub heard_fault : CoreFault → Heard
heard_fault fault.UnknownClient = Lost
heard_fault _ = Refused

-- what it took, that its packet was worked on, or that its client is gone: closed, or unknown
abbrev pub heard : Answer → Heard
heard (Ok (outcome.Opened opening)) = Opened opening.client
heard (Ok (outcome.Frames frames)) = Took (has_ping frames.list) frames.more
heard (Ok outcome.Nothing) = Took false false
heard (Ok (outcome.Done done)) = if is_some done.closed then Lost else Worked
heard (Ok other) = Other
heard (Err e) = heard_fault e.fault

-- ---- what it does about that

abbrev pub at_first : Progress
at_first = record { client = 0; stage = Opens; rests = false; begun = false; look = 0 }

-- once all is taken it looks who is to be ended, where it is time for that; a socket that was ended is struck off, and
-- the first time that it has joined it has begun
abbrev pub task_at : Stage → Heard → (now : ℕ) → Progress → Option Task
task_at stage (Took ping more) now p = if not ping && not more && nat_le p.look now then Some Looks else None
task_at Ends Worked now p = Some Strikes
task_at Joins Worked now p = if p.begun then None else Some Begins
task_at stage Worked now p = None
task_at stage Lost now p = if p.begun then Some TellsLoss else None
task_at stage Refused now p = Some WakesAll
task_at stage _ now p = None

abbrev pub task : Heard → (now : ℕ) → Progress → Option Task
task heard now p = task_at p.stage heard now p

-- ---- how it goes on

abbrev pub to : Stage → Progress → Progress
to stage p = record p { stage = stage }

abbrev pub resting : Progress → Progress
resting p = record p { rests = true }

-- each time that 256 were ended, and at last, it takes what it is told
abbrev pub ends_stretch : (due : ℕ) → Bool
ends_stretch due = due % 256 == 0

-- it looks once a second
abbrev pub looked : (now : ℕ) → Progress → Progress
looked now p = if nat_le p.look now then record p { look = min (now + 1000) 18446744073709551615 } else p

-- it ends those that are due, and where none is it rests before it takes on
abbrev pub after_look : (due now : ℕ) → Progress → Progress
after_look due now p = if due == 0 then resting (to Takes (looked now p)) else to Ends (looked now p)

abbrev pub after_work_at : Stage → (due : ℕ) → Progress → Progress
after_work_at Ends due p = if ends_stretch due then to Takes p else p
after_work_at Joins due p = record (to Takes p) { begun = true }
after_work_at _ due p = to Takes p

abbrev pub after_work : (due : ℕ) → Progress → Progress
after_work due p = after_work_at p.stage due p

-- a ping is answered before all else, and what waits is taken before anybody is ended; where its client is gone it opens
-- another a little later, and where it was refused it tries that again
abbrev pub after : Heard → (due now : ℕ) → Progress → Progress
after (Opened client) due now p = record (to Joins p) { client = client }
after (Took true more) due now p = to Answers p
after (Took false true) due now p = p
after (Took false false) due now p = after_look due now p
after Worked due now p = after_work due p
after Lost due now p = resting (to Opens p)
after Refused due now p = resting p
after Other due now p = resting p
