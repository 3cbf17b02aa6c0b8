-- Which clients are open, which sockets are connected and which sessions are saved, asked of the
-- last step that speaks of them.
use Rattle.std.specs.Prelude.{ℕ, ◌==◌, Bool, true, false, not, ◌&&◌, ◌||◌, List, [], ◌∷◌, Option, None, Some, unwrap_or, if◌then◌else◌}
use Rattle.std.specs.List.{list_any}
use Rattle.std.specs.Option.{option_map_or}
use Rattle.recovery.specs.Expiry.{is_outdated}
use Rattle.recovery.specs.SavedTable.{PlainSaved}
use Rattle.journal.specs.declared.socket.Socket.{Socket}
use Rattle.journal.specs.declared.step.Step.{Step}
use Rattle.journal.specs.declared.step.What.{What}
use Rattle.journal.specs.declared.step.What.TheVariants.{Opened, Attached, Recovered, Parked, Ended, AllEnded, Closed, Swept}
use Rattle.journal.specs.Plain.{Limits, PlainBase}
use Rattle.journal.specs.Membership.{is_open, sid_of, has_id, socket_with, sockets_of}
use Rattle.journal.specs.Sessions.{session_with}
use Rattle.continuity.specs.Truly.{loses}

-- ---- clients

-- what a step says of a client: that it is open, that it isn't, or nothing
abbrev pub client_word : ℕ → What → Option Bool
client_word c (Opened d) = if d == c then Some true else None
client_word c (Parked d) = if d == c then Some false else None
client_word c (Closed d) = if d == c then Some false else None
client_word c _ = None

-- the last step that speaks of the client says that it is open, or none speaks and
-- it is open in the base
unfoldable pub is_last_open : PlainBase → List Step → ℕ → Bool
is_last_open base [] c = is_open base [] c
is_last_open base (step ∷ before) c =
    unwrap_or (client_word c step.what) (is_last_open base before c)

-- ---- sockets

-- the client has a socket with this session id
abbrev pub has_socket : PlainBase → List Step → ℕ → ℕ → Bool
has_socket base before c s = list_any (has_id sid_of s) (sockets_of base before c)

-- what a step says of a session id: which socket has it, that none has it, or nothing
abbrev pub socket_word : PlainBase → List Step → ℕ → What → Option (Option Socket)
socket_word base before s (Attached k) = if k.sid == s then Some (Some k) else None
socket_word base before s (Recovered r) = if r.socket.sid == s then Some (Some r.socket) else None
socket_word base before s (Ended t by) = if t == s then Some None else None
socket_word base before s (AllEnded d) = if list_any (λ t. s == t) d.ended then Some None else None
socket_word base before s (Parked c) = if has_socket base before c s then Some None else None
socket_word base before s (Closed c) = if has_socket base before c s then Some None else None
socket_word base before s _ = None

-- the connected socket that the last step which speaks of the id names, if any, or the
-- base's where none speaks
unfoldable pub last_socket : PlainBase → List Step → ℕ → Option Socket
last_socket base [] s = socket_with sid_of base [] s
last_socket base (step ∷ before) s =
    unwrap_or (socket_word base before s step.what) (last_socket base before s)

-- ---- saved sessions

-- the step ends the session that was lost at a moment: it comes back, or it is
-- swept since it is too old
abbrev pub ends_saved : Limits → (p lost_at at : ℕ) → What → Bool
ends_saved limits p lost_at at (Recovered r) = r.socket.pid == p
ends_saved limits p lost_at at Swept = is_outdated limits.keep at lost_at
ends_saved limits p lost_at at _ = false

-- none of these steps does
abbrev pub stays_saved : Limits → (p lost_at : ℕ) → List Step → Bool
stays_saved limits p lost_at later =
    not (list_any (λ (step : Step). ends_saved limits p lost_at step.at step.what) later)

-- some step of the journal lost the session's socket with its client, or the base has the session,
-- and no step after that one ended the session; `later` are the steps after the journal
unfoldable pub is_lost : PlainBase → Limits → (later : List Step) → List Step → ℕ → Bool
is_lost base limits later [] p =
    option_map_or
    (λ (s : PlainSaved). stays_saved limits p s.lost_at later)
    (session_with p base.saved)
    false
is_lost base limits later (step ∷ before) p =
    (loses base before p step.what && stays_saved limits p step.at later)
    || is_lost base limits (step ∷ later) before p
