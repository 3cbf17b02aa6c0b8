-- How a command changes what a state is kept in, and what its refusal says.
use Rattle.std.specs.Prelude.{◌≡◌, ℕ, ◌+◌, ◌-◌, ◌≤◌, ◌==◌, ◌||◌, true, false, List, length, take, Option, None, Some, Result, Ok, Err, OnOk, OnErr, IfErr, if◌then◌else◌, nat_eq}
use Rattle.std.specs.List.{find, list_any, count_by, AllByRecursion}
use Rattle.std.specs.Option.{option_map}
use Rattle.std.specs.Ordering.{nat_cmp}
use Rattle.std.specs.HashMap.{HashMap, get}
use Rattle.std.specs.BTreeSet.{BTreeSet, contains}
use Rattle.journal.specs.declared.error.HubError.{HubError}
use Rattle.journal.specs.declared.error.HubError.TheVariants.{Memory}
use Rattle.journal.specs.declared.socket.Socket.{Socket}
use Rattle.journal.specs.declared.step.What.{What}
use Rattle.room_maps.specs.Membership.{RoomSets, is_socket, with_socket_in, AreConsistent}
use Rattle.journal.specs.Plain.{PlainClient}
use Rattle.journal.specs.Journal.{History, moment, with_step}
use Rattle.journal.specs.Totals.{placed_by, dropped_by, handed_out_by, discarded_by, waiting_in_all}
use Rattle.journal.specs.Legal.{EachTwo, AreApart}
use Rattle.journal.specs.Fields.{held_sockets}
use Rattle.journal.specs.Command.{refusal}
use Rattle.journal.specs.Membership.{without_sockets}
use Rattle.hub_state.specs.Seats.{SeatMap, SameSeats, WithSeat, seat_at}
use Rattle.hub_state.specs.declared.state.Live.{Live}

-- ---- the maps

-- what is held of one client, if anything, becomes this, and what is held of the others stays
abbrev pub ChangesClient : {S : Type 0} → (PlainClient → PlainClient) → ℕ → HashMap ℕ PlainClient S → HashMap ℕ PlainClient S → Type 0
ChangesClient f client old new =
    (q : ℕ) → get nat_eq new q ≡ (if client == q then option_map f (get nat_eq old q) else get nat_eq old q)

-- the same of each client
abbrev pub SameClients : {S : Type 0} → HashMap ℕ PlainClient S → HashMap ℕ PlainClient S → Type 0
SameClients old new = (q : ℕ) → get nat_eq new q ≡ get nat_eq old q

-- a client without the newest entries that wait for it, as many as are named
abbrev pub without_newest : ℕ → PlainClient → PlainClient
without_newest n known =
    record known { outbox = record known.outbox { waiting = take (length known.outbox.waiting - n) known.outbox.waiting } }

-- each client without the newest entry that waits for it, as often as it is in the list
abbrev pub WithoutNewest : {S : Type 0} → List ℕ → HashMap ℕ PlainClient S → HashMap ℕ PlainClient S → Type 0
WithoutNewest clients old new =
    (q : ℕ) → get nat_eq new q ≡ option_map (without_newest (count_by (λ c. c == q) clients)) (get nat_eq old q)

-- the same private ids
abbrev pub SamePids : BTreeSet ℕ → BTreeSet ℕ → Type 0
SamePids old new = (p : ℕ) → contains nat_cmp new p ≡ contains nat_cmp old p

-- one private id more
abbrev pub WithPid : ℕ → BTreeSet ℕ → BTreeSet ℕ → Type 0
WithPid pid old new = (p : ℕ) → contains nat_cmp new p ≡ ((pid == p) || contains nat_cmp old p)

-- no socket has one of the socket's ids
abbrev pub IsNew : Socket → Live → Type 0
IsNew socket known = (seat_at known.seats socket.sid ≡ None) × (contains nat_cmp known.pids socket.pid ≡ false)

-- the same sockets in the same rooms
abbrev pub SameLive : (old new : Live) → Type 0
SameLive old new = SameSeats old.seats new.seats × SamePids old.pids new.pids × (new.rooms ≡ old.rooms)

-- one socket more, in its own room and in these
abbrev pub WithSocket : Socket → (inside : List (List ℕ)) → (old new : Live) → Type 0
WithSocket socket inside old new =
    WithSeat socket old.seats new.seats × WithPid socket.pid old.pids new.pids
    × (new.rooms ≡ with_socket_in old.rooms socket.sid inside) × AreConsistent new.rooms

-- the socket's client has none at the socket's place
abbrev pub IsAlone : {S : Type 0} → Socket → HashMap ℕ PlainClient S → Type 0
IsAlone socket clients = find (λ (k : Socket). k.space == socket.space) (held_sockets (get nat_eq clients socket.client)) ≡ None

-- without a private id
abbrev pub WithoutPid : ℕ → BTreeSet ℕ → BTreeSet ℕ → Type 0
WithoutPid pid old new = (p : ℕ) → contains nat_cmp new p ≡ (if pid == p then false else contains nat_cmp old p)

-- without the sockets of a list, by their session ids
abbrev pub WithoutSeats : List Socket → SeatMap → SeatMap → Type 0
WithoutSeats sockets old new =
    (s : ℕ) → seat_at new s ≡ (if list_any (λ (k : Socket). k.sid == s) sockets then None else seat_at old s)

-- without the sockets of a list, by their private ids
abbrev pub WithoutPids : List Socket → BTreeSet ℕ → BTreeSet ℕ → Type 0
WithoutPids sockets old new =
    (p : ℕ) → contains nat_cmp new p ≡ (if list_any (λ (k : Socket). k.pid == p) sockets then false else contains nat_cmp old p)

-- without the sockets of a list
abbrev pub WithoutSockets : List Socket → (old new : Live) → Type 0
WithoutSockets sockets old new =
    WithoutSeats sockets old.seats new.seats × WithoutPids sockets old.pids new.pids × (new.rooms ≡ without_sockets old.rooms sockets)

-- the rooms know these sockets, of which no two share an id: so they can be forgotten one by one
abbrev pub CanForget : List Socket → RoomSets → Type 0
CanForget sockets rooms = AllByRecursion (λ (k : Socket). is_socket rooms k.sid ≡ true) sockets × EachTwo AreApart sockets

-- ---- the answers

-- so it is of each step that puts and drops so many, and hands out and discards no more than waits
abbrev pub OfEach : History → (puts drops : ℕ) → (What → Type 0) → Type 0
OfEach h puts drops Holds =
    (what : What) → placed_by h.base h.limits h.journal what ≡ puts → dropped_by what ≡ drops
    → handed_out_by what + discarded_by h.base h.limits h.journal what ≤ waiting_in_all h.base h.limits h.journal → Holds what

-- why the command that makes this step is refused, at the moment of the newest step: but for a session that comes back
-- it is the same at each moment
abbrev pub refusal_now : History → What → Option HubError
refusal_now h what = refusal h (moment h.base h.journal) what

-- a check says so: nothing where nothing speaks against the command, and else its refusal
abbrev pub Reports : {X : Type 0} → Result X HubError → Option HubError → Type 0
Reports (Ok x) refused = refused ≡ None
Reports (Err e) refused = refused ≡ Some e

-- the step, which may be made, was made, or nothing changed for want of memory
abbrev pub MakesStep : {X : Type 0} → (old new : History) → ℕ → What → Result X HubError → Type 0
MakesStep old new now what result =
    OnOk result (new ≡ with_step old now what) × OnErr result (new ≡ old) × IfErr result (λ e. e ≡ Memory)
