-- How a command is answered, and what it makes of a hub.
use Rattle.std.specs.Prelude.{◌≡◌, ◌⊎◌, ℕ, Bool, true, false, Option, None, Some, Result, Ok, Err, unwrap_or}
use Rattle.journal.specs.declared.error.HubError.{HubError}
use Rattle.journal.specs.declared.error.HubError.TheVariants.{Memory}
use Rattle.journal.specs.declared.step.What.{What}
use Rattle.journal.specs.declared.step.What.TheVariants.{Opened, Attached, Recovered, Joined, Left, AllJoined, AllLeft, Cast, Told, Took, Parked, Ended, AllEnded, Closed, Swept}
use Rattle.journal.specs.Plain.{Limits}
use Rattle.journal.specs.Journal.{History, moment_at, with_step}
use Rattle.journal.specs.Membership.{is_space}
use Rattle.journal.specs.Totals.{is_spent}
use Rattle.journal.specs.Refusals.{or_spent, open_refusal, client_refusal, tell_refusal, park_refusal, attach_refusal, end_refusal, join_refusal, leave_refusal, space_refusal, joining_refusal, leaving_refusal, recover_refusal, broadcast_refusal}

-- why the command that makes this step at this moment is refused, but for a count that
-- would pass the greatest u64
abbrev pub own_refusal : History → ℕ → What → Option HubError
own_refusal h at (Opened c) = open_refusal h.base h.limits h.journal c
own_refusal h at (Attached k) = attach_refusal h.base h.limits h.journal k
own_refusal h at (Recovered r) =
    recover_refusal
    h.base h.limits h.journal r.socket.client r.socket.space r.socket.pid r.offset at
own_refusal h at (Joined s room) = join_refusal h.base h.journal s room
own_refusal h at (Left s room) = leave_refusal h.base h.journal s room
own_refusal h at (AllJoined m) = joining_refusal h.base h.limits h.journal m
own_refusal h at (AllLeft m) = leaving_refusal h.base h.limits h.journal m
own_refusal h at (Cast b) = broadcast_refusal h.limits b
own_refusal h at (Told m) = tell_refusal h.base h.limits h.journal m.client m.entry
own_refusal h at (Took c most n) = client_refusal h.base h.journal c
own_refusal h at (Parked c) = park_refusal h.base h.limits h.journal c
own_refusal h at (Ended s by) = end_refusal h.base h.journal s
own_refusal h at (AllEnded d) = space_refusal h.limits d.space
own_refusal h at (Closed c) = client_refusal h.base h.journal c
own_refusal h at Swept = None

-- why it is refused: its own reasons in their order, then Spent
abbrev pub refusal : History → ℕ → What → Option HubError
refusal h at what = or_spent (own_refusal h at what) (is_spent h.base h.limits h.journal what)

-- memory is taken before all of its reasons are known, of which the namespace alone is asked first
abbrev pub is_found_late : Limits → What → Bool
is_found_late limits (AllJoined m) = is_space limits m.space
is_found_late limits (AllLeft m) = is_space limits m.space
is_found_late limits (AllEnded d) = is_space limits d.space
is_found_late limits _ = false

-- the error is the refusal, or want of memory where there is none; of a refusal that is found
-- late, also in its place
abbrev pub IsErrorOf : (late : Bool) → Option HubError → HubError → Type 0
IsErrorOf false refused e = e ≡ unwrap_or refused Memory
IsErrorOf true refused e = (e ≡ Memory) ⊎ (Some e ≡ refused)

-- the command that makes this step was answered: where it was accepted, nothing spoke
-- against it, and the journal is one step longer; else the answer is its refusal, or want of
-- memory, and nothing changed
abbrev pub Does : {X : Type 0} → (before after : History) → ℕ → What → Result X HubError → Type 0
Does before after now what (Ok x) =
    (refusal before (moment_at before now) what ≡ None) × (after ≡ with_step before now what)
Does before after now what (Err e) =
    IsErrorOf (is_found_late before.limits what) (refusal before (moment_at before now) what) e
    × (after ≡ before)
