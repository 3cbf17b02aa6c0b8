-- What a session has heard, and what it should have (Socket.IO server documentation,
-- "Connection state recovery").
use Rattle.std.specs.Prelude.{ℕ, ◌==◌, Bool, false, List, [], ◌∷◌, ◌++◌, filter, if◌then◌else◌}
use Rattle.std.specs.List.{list_any}
use Rattle.std.specs.Option.{option_map_or, option_to_list}
use Rattle.recovery.specs.PacketLog.{stands}
use Rattle.journal.specs.declared.step.Step.{Step}
use Rattle.journal.specs.declared.step.What.{What}
use Rattle.journal.specs.declared.step.What.TheVariants.{Attached, Recovered, Cast}
use Rattle.journal.specs.Plain.{Limits, PlainBase, PlainBroadcast}
use Rattle.journal.specs.Membership.{pid_of, has_id}
use Rattle.journal.specs.Log.{log}
use Rattle.journal.specs.Outboxes.{receivers}
use Rattle.continuity.specs.Session.{kept, is_for}

-- ---- offsets

-- the list has this offset
abbrev pub has : List ℕ → ℕ → Bool
has offsets o = list_any (λ x. x == o) offsets

-- the offsets that a step gives: that of a logged broadcast
abbrev pub given : What → List ℕ
given (Cast b) = option_to_list b.offset
given _ = []

-- the offsets of the journal's logged broadcasts, in order
unfoldable pub all_given : List Step → List ℕ
all_given [] = []
all_given (step ∷ before) = all_given before ++ given step.what

-- the list without what follows this offset
unfoldable pub up_to : ℕ → List ℕ → List ℕ
up_to o [] = []
up_to o (x ∷ xs) = if x == o then x ∷ [] else x ∷ up_to o xs

-- the step connects a new session with this private id
abbrev pub begins : ℕ → What → Bool
begins p (Attached k) = k.pid == p
begins p _ = false

-- ---- heard

-- the broadcast is put for the session's socket
abbrev pub is_put_for : PlainBase → List Step → ℕ → PlainBroadcast → Bool
is_put_for base before p b = list_any (has_id pid_of p) (receivers base before b)

-- what a client still counts as heard that names this offset: all up to it, or nothing where the
-- log of the base has it
abbrev pub heard_until : PlainBase → Limits → ℕ → List ℕ → List ℕ
heard_until base limits o offsets = if stands o (log base limits []) then [] else up_to o offsets

-- what a step makes of the offsets that were heard. A logged broadcast that is put for the
-- session is heard; one who comes back has heard what he named, and then what he is sent of
-- the journal's broadcasts
abbrev pub heard_after : PlainBase → Limits → List Step → ℕ → List ℕ → What → List ℕ
heard_after base limits before p offsets (Attached k) = if k.pid == p then [] else offsets
heard_after base limits before p offsets (Cast b) =
    if is_put_for base before p b then offsets ++ option_to_list b.offset else offsets
heard_after base limits before p offsets (Recovered r) =
    if r.socket.pid == p
    then heard_until base limits r.offset offsets ++ filter (has (all_given before)) r.missed
    else offsets
heard_after base limits before p offsets _ = offsets

-- the offsets of the journal's broadcasts that the client of the session holds, in order, if it
-- names truly what it got last: since the session began, or since the base
unfoldable pub heard : PlainBase → Limits → List Step → ℕ → List ℕ
heard base limits [] p = []
heard base limits (step ∷ before) p =
    heard_after base limits before p (heard base limits before p) step.what

-- ---- due

-- the broadcast is for the session, as this is before it
abbrev pub is_due : PlainBase → Limits → List Step → ℕ → PlainBroadcast → Bool
is_due base limits before p b = option_map_or (is_for b) (kept base limits before p) false

-- the offset of a logged broadcast that is due
abbrev pub due_by : PlainBase → Limits → List Step → ℕ → What → List ℕ
due_by base limits before p (Cast b) =
    if is_due base limits before p b then option_to_list b.offset else []
due_by base limits before p _ = []

-- the offsets of the journal's broadcasts that the session should have, in order: since it
-- began, or since the base
unfoldable pub due_casts : PlainBase → Limits → List Step → ℕ → List ℕ
due_casts base limits [] p = []
due_casts base limits (step ∷ before) p =
    if begins p step.what then []
    else due_casts base limits before p ++ due_by base limits before p step.what
