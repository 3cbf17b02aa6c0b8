-- What the answer to an event of a connection says: of its look, and of others.
use Rattle.std.specs.Prelude.{ℕ, Bool, true, false, not, ◌&&◌, ◌||◌, Option, None, Some, is_none, Ok, Err, cond, min, nat_eq, nat_lt, ◌%◌}
use Rattle.events.specs.Answer.{Answer}
use Rattle.events.specs.declared.event.Event.{Event}
use Rattle.events.specs.declared.event.Event.TheVariants as event
use Rattle.events.specs.declared.event.WsFrame.TheVariants as frame
use Rattle.events.specs.Plain.{PlainDone}
use Rattle.events.specs.declared.fault.CoreError.{CoreError}
use Rattle.events.specs.declared.fault.CoreFault.{CoreFault}
use Rattle.events.specs.declared.fault.CoreFault.TheVariants as fault
use Rattle.events.specs.declared.outcome.Outcome.TheVariants as outcome
use Rattle.loop_rules.specs.Frames.{left_after_message}
use Rattle.loop_rules.specs.Packets.{carries}
use Rattle.loop_rules.specs.declared.looks.Found.{Found}
use Rattle.loop_rules.specs.declared.looks.Found.TheVariants as found
use Rattle.loop_rules.specs.declared.heard.Concern.{Concern}
use Rattle.loop_rules.specs.declared.heard.Concern.TheVariants as concern

-- an event asks what is due
abbrev pub asks_due : Event → Bool
asks_due (event.Tick client) = true
asks_due _ = false

-- a message of a WebSocket counts that carries a packet of Socket.IO, or a part of one
abbrev pub is_message : Event → Bool
is_message (event.Frame client (frame.Text text)) = carries text
is_message (event.Frame client (frame.Bytes bytes)) = true
is_message _ = false

-- nothing waits for a client any more: so it was after its message, or a take left nothing
abbrev pub has_taken_all : (rests : Bool) → Answer → Bool
has_taken_all rests (Ok (outcome.Done done)) = rests && is_none done.closed
has_taken_all rests (Ok (outcome.Frames frames)) = not frames.more
has_taken_all rests _ = false

-- a message is followed by those that were read behind it, but for each sixteenth of a stint and the last one
abbrev pub reads_ahead : (unbrought left : ℕ) → Event → Bool
reads_ahead unbrought left (event.Frame client frame) = nat_lt 0 unbrought && nat_lt 0 left && not (nat_eq (left % 16) 1)
reads_ahead unbrought left _ = false

abbrev pub found_beside : (is_dry : Bool) → Answer → Found
found_beside is_dry (Ok (outcome.Ticked ping done)) = cond (not ping && is_none done.closed) found.Quiet found.More
found_beside is_dry (Ok outcome.Nothing) = cond is_dry found.Dry found.More
found_beside is_dry _ = found.More

-- there is nothing to do where the peer is idle, or where all that waited was taken and all that came was brought
abbrev pub found_by : (idle has_taken_all is_dry : Bool) → Answer → Found
found_by idle has_taken_all is_dry got = cond (idle || (has_taken_all && is_dry)) found.Idle (found_beside is_dry got)

-- the rest of a look was passed over, since nothing can be due that wasn't
abbrev pub found_passed : (idle : Bool) → Found
found_passed idle = cond idle found.Idle found.Quiet

-- bytes that were read, and brought no event yet
abbrev pub left_unbrought : (unbrought : ℕ) → Option ℕ → (is_post : Bool) → (read : ℕ) → ℕ
left_unbrought unbrought (Some length) is_post read = min (left_after_message unbrought length) read
left_unbrought unbrought None is_post read = cond is_post 0 unbrought

-- what was done of an event
abbrev pub done_of : Answer → Option PlainDone
done_of (Ok (outcome.Done done)) = Some done
done_of (Ok (outcome.Lost saved done)) = Some done
done_of (Ok (outcome.Ticked ping done)) = Some done
done_of _ = None

-- whether packets or effects were worked on before an event failed
abbrev pub has_done : CoreError → Bool
has_done e = nat_lt 0 e.packets || nat_lt 0 e.effects

abbrev pub failure_of : CoreFault → (has_done : Bool) → Concern
failure_of fault.UnknownClient has_done = concern.Gone has_done
failure_of _ has_done = concern.Fails has_done

-- a client has ended where it was closed
abbrev pub unless_closed : PlainDone → Concern → Concern
unless_closed done other = cond (is_none done.closed) other concern.Ends

-- whom an answer concerns
abbrev pub concern_of : (comes_over is_taker : Bool) → Answer → Concern
concern_of comes_over is_taker (Ok (outcome.Opened o)) = concern.Opens
concern_of comes_over is_taker (Ok outcome.Begun) = concern.Takes
concern_of comes_over is_taker (Ok (outcome.Probed text)) = concern.Wakes
concern_of comes_over is_taker (Ok (outcome.Lost saved done)) = concern.Ends
concern_of comes_over is_taker (Ok (outcome.Done done)) =
    unless_closed done (cond comes_over concern.ComesOver (cond is_taker concern.Nobody concern.Wakes))
concern_of comes_over is_taker (Ok (outcome.Ticked ping done)) = unless_closed done concern.Nobody
concern_of comes_over is_taker (Ok _) = concern.Nobody
concern_of comes_over is_taker (Err e) = failure_of e.fault (has_done e)

-- nobody knows for whom something was put: the event failed after it
abbrev pub hides_whom : Concern → Bool
hides_whom (concern.Gone has_done) = has_done
hides_whom (concern.Fails has_done) = has_done
hides_whom _ = false

-- where a client is given up, it has ended once the core heard of its loss
abbrev pub loss_concern : Answer → Concern
loss_concern (Ok (outcome.Lost saved done)) = concern.Ends
loss_concern _ = concern.Nobody
