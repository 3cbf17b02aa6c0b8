-- What was put for each client, what was handed out, and what waits (Socket.IO server
-- documentation, "Rooms" and "Adapter"; that an outbox has an end is this server's own).
use Rattle.std.specs.Prelude.{ℕ, ◌+◌, ◌==◌, Bool, false, not, ◌&&◌, ◌||◌, List, [], ◌∷◌, ◌++◌, length, drop, map, filter, nat_lt, nat_le, get_or, if◌then◌else◌}
use Rattle.std.specs.List.{list_any, find, sum_by}
use Rattle.std.specs.Option.{option_map_or}
use Rattle.journal.specs.declared.socket.Socket.{Socket}
use Rattle.journal.specs.declared.step.Step.{Step}
use Rattle.journal.specs.declared.step.What.{What}
use Rattle.journal.specs.declared.step.What.TheVariants.{Opened, Attached, Recovered, Cast, Told, Took, AllEnded}
use Rattle.terms.specs.declared.entry.Entry.{Entry}
use Rattle.terms.specs.Entry.{entry_size}
use Rattle.sio_wire.specs.ConnectAnswer.{connected_text}
use Rattle.sio_wire.specs.Disconnect.{disconnect_text}
use Rattle.recovery.specs.PacketLog.{PlainLogged}
use Rattle.journal.specs.Plain.{Limits, PlainBase, PlainBaseClient, PlainBroadcast}
use Rattle.journal.specs.Membership.{sockets, matches}
use Rattle.journal.specs.Log.{log}

-- ---- what a step puts

-- the answer to a CONNECT: the CONNECT packet with both ids (Socket.IO protocol 5,
-- "Connection to a namespace")
unfoldable pub answer : Limits → Socket → Entry
answer limits k =
    record { text = connected_text (get_or limits.spaces k.space []) k.sid k.pid; attachments = [] }

-- what a client is told whose socket in the namespace is ended (Socket.IO protocol 5,
-- "Disconnection from a namespace")
unfoldable pub farewell : Limits → (space : ℕ) → Entry
farewell limits space =
    record { text = disconnect_text (get_or limits.spaces space []); attachments = [] }

-- the broadcast is for this socket: it is in the namespace, in one of the rooms, where some are
-- named, and in none of the excepted rooms
abbrev pub is_addressed : PlainBase → List Step → PlainBroadcast → Socket → Bool
is_addressed base before b k = matches base before b.space b.rooms b.excepted k

-- the sockets that get a broadcast: those that it is for, without those that are dropped
abbrev pub receivers : PlainBase → List Step → PlainBroadcast → List Socket
receivers base before b =
    filter
    (λ k. is_addressed base before b k && not (list_any (λ s. s == k.sid) b.dropped))
    (sockets base before)

-- the entries of the log that have one of these offsets, in the log's order
abbrev pub entries_of : List PlainLogged → List ℕ → List Entry
entries_of log offsets =
    map (λ (e : PlainLogged). e.entry)
    (filter (λ (e : PlainLogged). list_any (λ o. o == e.offset) offsets) log)

-- what a step puts, in order, each entry with the client that it is for
unfoldable pub put : PlainBase → Limits → List Step → What → List (ℕ × Entry)
put base limits before (Attached k) = (k.client, answer limits k) ∷ []
put base limits before (Recovered r) =
    map (λ e. (r.socket.client, e))
    (answer limits r.socket ∷ entries_of (log base limits before) r.missed)
put base limits before (Cast b) = map (λ k. (k.client, b.entry)) (receivers base before b)
put base limits before (Told m) = (m.client, m.entry) ∷ []
put base limits before (AllEnded d) = map (λ c. (c, farewell limits d.space)) d.told
put base limits before _ = []

-- the entries of these that are for the client
abbrev pub entries_for : ℕ → List (ℕ × Entry) → List Entry
entries_for c pairs = map (λ p. p.1) (filter (λ p. p.0 == c) pairs)

-- ---- what has been put, and what waits

-- the step opens the client
abbrev pub begins : ℕ → What → Bool
begins c (Opened d) = d == c
begins c _ = false

-- how many entries a step hands out to the client
abbrev pub taken_by : ℕ → What → ℕ
taken_by c (Took d most n) = if d == c then n else 0
taken_by c _ = 0

-- what waits for the client at the base
abbrev pub base_waiting : PlainBase → ℕ → List Entry
base_waiting base c =
    option_map_or (λ (b : PlainBaseClient). b.waiting)
    (find (λ (b : PlainBaseClient). b.client == c) base.clients)
    []

-- the entries that were put for the client since it was opened, in order
unfoldable pub placements : PlainBase → Limits → List Step → ℕ → List Entry
placements base limits [] c = base_waiting base c
placements base limits (step ∷ before) c =
    if begins c step.what then []
    else placements base limits before c ++ entries_for c (put base limits before step.what)

-- how many of them were handed out
unfoldable pub taken : PlainBase → List Step → ℕ → ℕ
taken base [] c = 0
taken base (step ∷ before) c =
    if begins c step.what then 0 else taken base before c + taken_by c step.what

-- those that wait
unfoldable pub waiting : PlainBase → Limits → List Step → ℕ → List Entry
waiting base limits journal c = drop (taken base journal c) (placements base limits journal c)

-- ---- space

-- the bytes of these entries together
unfoldable pub total_size : List Entry → ℕ
total_size entries = sum_by entry_size entries

-- among these entries there is no space for one more: there are `capacity`, or with it they would
-- have more than `bytes`
abbrev pub has_no_space : (capacity bytes : ℕ) → List Entry → Entry → Bool
has_no_space capacity bytes entries entry =
    nat_le capacity (length entries) || nat_lt bytes (total_size entries + entry_size entry)

-- the client's outbox has no space for the entry
abbrev pub is_full : PlainBase → Limits → List Step → ℕ → Entry → Bool
is_full base limits journal c entry =
    has_no_space limits.capacity limits.bytes (waiting base limits journal c) entry
