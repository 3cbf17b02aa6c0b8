-- One connection as a value: what it does next, and what befalls it.
use Rattle.std.specs.Prelude.{ℕ, ◌+◌, ◌-◌, min, Bool, true, false, not, ◌&&◌, ◌||◌, Option, None, Some, is_none, is_some, cond, nat_eq, nat_le, nat_lt}
use Rattle.events.specs.Answer.{Answer}
use Rattle.events.specs.Loss.{follows, most_tries}
use Rattle.events.specs.declared.loss.Loss.{Loss}
use Rattle.events.specs.declared.loss.Retry.{Retry}
use Rattle.events.specs.declared.loss.Retry.TheVariants as retry
use Rattle.loop_rules.specs.Deadlines.{overdue_at}
use Rattle.loop_rules.specs.declared.deadlines.Period.{Period}
use Rattle.loop_rules.specs.declared.deadlines.Period.TheVariants as period
use Rattle.loop_rules.specs.declared.looks.Pause.{Pause}
use Rattle.loop_rules.specs.declared.looks.Pause.TheVariants as pause
use Rattle.loop_rules.specs.declared.receiving.Sender.{Sender}
use Rattle.loop_rules.specs.declared.receiving.Sender.TheVariants as sender
use Rattle.loop_rules.specs.Course.{is_post, is_receiving, is_socket, speaks}
use Rattle.loop_rules.specs.declared.link.Course.{Course}
use Rattle.loop_rules.specs.declared.link.Course.TheVariants as course
use Rattle.loop_rules.specs.declared.link.Serving.{Serving}
use Rattle.loop_rules.specs.declared.link.Serving.TheVariants as serving
use Rattle.loop_rules.specs.declared.link.Do.{Do}
use Rattle.loop_rules.specs.declared.link.Do.TheVariants as what
use Rattle.loop_rules.specs.declared.link.Link.{Link}
use Rattle.loop_rules.specs.declared.link.Seen.{Seen}

-- ## Its course

-- its request is coming
abbrev pub first : (now : ℕ) → Link
first now = record {
  course = course.Gathers;
  client = None;
  since = now;
  moved = now;
  left = 48;
  unsent = false;
  held = false;
  waits = false;
  paced = 0;
  counted = 0;
}

-- it is over
abbrev pub over : Link
over = record (first 0) { course = course.Lingers }

abbrev pub turned_to : Course → (now : ℕ) → Link → Link
turned_to c now l = record l { course = c; since = now }

abbrev pub served : Serving → Option ℕ → (now : ℕ) → Link → Link
served s client now l = record (turned_to (course.Serves s) now l) { client = client }

abbrev pub closed : (now : ℕ) → Link → Link
closed now l = turned_to (course.Closes false) now l

abbrev pub lingering : (now : ℕ) → Link → Link
lingering now l = turned_to course.Lingers now l

-- its client is lost, if it has one, and else it closes
abbrev pub lost : Option ℕ → Course
lost (Some client) = course.Loses (record { client = client; left = most_tries })
lost None = course.Closes false

abbrev pub failed : (now : ℕ) → Link → Link
failed now l = turned_to (lost l.client) now l

-- who sends over it: its client, once that speaks over it
abbrev pub sender_by : Bool → Option ℕ → (key : ℕ) → Sender
sender_by true (Some client) key = sender.Client client
sender_by _ client key = sender.Connection key

abbrev pub sender_of : (key : ℕ) → Link → Sender
sender_of key l = sender_by (speaks l.course) l.client key

-- ## What comes over it

abbrev pub bytes_unfinished : Seen → Link → ℕ
bytes_unfinished seen l = cond (is_receiving l.course) seen.unbrought 0

-- up to how many bytes it is read
abbrev pub most_of : (limit : ℕ) → Link → ℕ
most_of limit l = cond (is_receiving l.course) limit 18446744073709551615

-- one that is gone has no more, and nothing to bring
abbrev pub seen_gone : Seen
seen_gone = record {
  unsent = 0;
  unbrought = 0;
  drained = true;
  idle = true;
  asks_due = false;
  has_read_nothing = false;
  has_more = false;
}

-- ## What it does next

-- what is due to a client isn't asked again for 10 ms
abbrev pub is_just_asked : (asked now : ℕ) → Bool
is_just_asked asked now = nat_lt now (min (asked + 10) 18446744073709551615)

-- a request is served from its moment on, and a GET that waits is looked at for its end. A WebSocket whose client waits
-- brings what needs no read
abbrev pub serves_next : Serving → Seen → (now : ℕ) → Link → Do
serves_next (serving.Request from) seen now l = cond (nat_lt now from) (what.Rest pause.Early) (what.Bring seen.idle true)
serves_next (serving.Post events) seen now l = what.Bring false true
serves_next (serving.Socket speaks asked) seen now l =
    cond (seen.asks_due && is_just_asked asked now) what.Pass (what.Bring false (not l.waits))

-- one with more than 64 KiB unsent isn't served
abbrev pub is_full : Seen → Bool
is_full seen = nat_lt 65536 seen.unsent

-- all that was read was brought, and its stream has no more
abbrev pub has_brought_all : Seen → Bool
has_brought_all seen = nat_eq seen.unbrought 0 && seen.drained

abbrev pub course_next : Course → Seen → (now : ℕ) → Link → Do
course_next course.Gathers seen now l = what.Gather
course_next (course.Serves s) seen now l = cond (is_full seen) (what.Rest pause.Full) (serves_next s seen now l)
course_next (course.Loses loss) seen now l = what.Tell loss
course_next (course.Closes told) seen now l = what.Rest pause.Done
course_next course.Lingers seen now l = what.Drain

abbrev pub next_of : Seen → (now : ℕ) → Link → Do
next_of seen now l = course_next l.course seen now l

-- all that came for a WebSocket was brought: nothing was read behind it, and its stream has no more, or isn't read
abbrev pub is_dry : Seen → Link → Bool
is_dry seen l =
    is_socket l.course && ((l.waits || has_brought_all seen) || seen.has_read_nothing)

-- ## The loss of its client

abbrev pub pause_by : Retry → Pause
pause_by retry.Again = pause.More
pause_by retry.Over = pause.Done

-- the core is told again where it refused, at most three times
abbrev pub after_loss : Course → Answer → Option Pause
after_loss (course.Loses loss) got = Some (pause_by (follows loss.left got))
after_loss _ got = None

abbrev pub loss_by : Retry → Loss → (now : ℕ) → Link → Link
loss_by retry.Again loss now l = record l { course = course.Loses (record loss { left = loss.left - 1 }) }
loss_by retry.Over loss now l = turned_to (course.Closes true) now l

abbrev pub loss_heard : Course → Answer → (now : ℕ) → Link → Link
loss_heard (course.Loses loss) got now l = loss_by (follows loss.left got) loss now l
loss_heard _ got now l = l

abbrev pub heard_loss : Answer → (now : ℕ) → Link → Link
heard_loss got now l = loss_heard l.course got now l

-- ## What goes out over it

abbrev pub moved_on : (count left now : ℕ) → Link → Link
moved_on count left now l = record l { moved = cond (nat_lt 0 count || nat_eq left 0) now l.moved }

abbrev pub is_closing : Course → Bool
is_closing (course.Closes told) = true
is_closing _ = false

-- one that closes ends once all has gone: a request at once, and any other one once the other side has ended it
abbrev pub emptied : (closes is_request : Bool) → Do
emptied false is_request = what.Fit
emptied true true = what.End
emptied true false = what.Shut

abbrev pub after_sending : Seen → (is_request : Bool) → Link → Do
after_sending seen is_request l =
    cond (nat_eq seen.unsent 0)
    (cond seen.has_more what.Queue (emptied (is_closing l.course) is_request))
    (cond (nat_le seen.unsent 65536 && not seen.has_more) what.Fit what.Nothing)

-- one whose stream is shut is read on
abbrev pub shut_if : Do → (now : ℕ) → Link → Link
shut_if what.Shut now l = lingering now l
shut_if _ now l = l

-- the core was told of its loss
abbrev pub is_told : Course → Bool
is_told (course.Closes told) = told
is_told _ = false

-- a request loses its client where its answer can't be sent, and a WebSocket that is served is cut
abbrev pub failure_of : Course → (is_request : Bool) → Do
failure_of (course.Loses loss) is_request = what.Cut
failure_of c true = what.Queue
failure_of (course.Serves s) false = what.Cut
failure_of _ false = what.End

-- where nobody is lost, or the core was told of it, it is over
abbrev pub after_failure : (is_request : Bool) → Link → Do
after_failure is_request l = cond (is_told l.course || is_none l.client) what.End (failure_of l.course is_request)

abbrev pub failed_if : Do → (now : ℕ) → Link → Link
failed_if what.Queue now l = failed now l
failed_if _ now l = l

abbrev pub after_unsendable : (is_request : Bool) → (now : ℕ) → Link → Link
after_unsendable is_request now l = failed_if (after_failure is_request l) now l

-- ## How long it may take

abbrev pub sends_or_ends : (cutting : Bool) → Period
sends_or_ends cutting = cond cutting period.Ends period.Sends

-- a WebSocket knocks as long as what is put for its client doesn't go over it
abbrev pub course_period : Course → Option ℕ → (waits is_taker cutting : Bool) → Period
course_period course.Gathers client waits is_taker cutting = period.Request
course_period (course.Serves (serving.Post events)) client waits is_taker cutting = period.Request
course_period (course.Serves (serving.Request from)) client waits is_taker cutting = cond waits period.Waits period.Served
course_period (course.Serves (serving.Socket speaks asked)) client waits is_taker cutting =
    cond (is_some client && not is_taker) period.Knocks period.Served
course_period (course.Loses loss) client waits is_taker cutting = sends_or_ends cutting
course_period (course.Closes told) client waits is_taker cutting = sends_or_ends cutting
course_period course.Lingers client waits is_taker cutting = period.Ends

abbrev pub period_of : (waits is_taker cutting : Bool) → Link → Period
period_of waits is_taker cutting l = course_period l.course l.client waits is_taker cutting

abbrev pub is_end : Period → Bool
is_end period.Ends = true
is_end _ = false

-- some of its bytes wait, and none have gone for 30 s
abbrev pub is_stuck : (unsent moved now : ℕ) → Bool
is_stuck unsent moved now = nat_lt 0 unsent && nat_le 30000 (now - moved)

abbrev pub overdue_of : Period → (unsent : ℕ) → (cutting : Bool) → (now : ℕ) → Link → Do
overdue_of p unsent cutting now l =
    cond (cutting && not (is_end p)) what.Fail (overdue_at p (now - l.since) (is_stuck unsent l.moved now))

-- one that is to fail has failed
abbrev pub failed_by : Do → (now : ℕ) → Link → Link
failed_by what.Fail now l = failed now l
failed_by _ now l = l

-- a POST that has to wait isn't late by that
abbrev pub waited_so : (has_to : Bool) → (now : ℕ) → Link → Link
waited_so has_to now l = cond (has_to && is_post l.course) (record l { since = now }) l
