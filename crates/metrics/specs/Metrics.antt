-- The counts as text (Prometheus, "Exposition formats", the text-based format): of each name what it counts and how,
-- and then its numbers, a line each.
use Rattle.std.specs.Prelude.{◌≡◌, ℕ, List, ◌++◌, String, codes, string_bytes}
use Rattle.std.specs.List.{flat_map}
use Rattle.std.specs.Fmt.{decimal}
use Rattle.journal.specs.declared.totals.Totals.{Totals}
use Rattle.metrics.specs.declared.metrics.CoreCounts.{CoreCounts}
use Rattle.metrics.specs.declared.metrics.LoopCounts.{LoopCounts}
use Rattle.metrics.specs.declared.metrics.Refusals.{Refusals}
use Rattle.metrics.specs.declared.metrics.Sizes.{Sizes}
use Rattle.metrics.specs.Reason.{label}

-- a text before and after this was put at its end
abbrev pub Adds : {Z : Type 0} → (old new : String Z) → (more : List ℕ) → Type 0
Adds old new more = string_bytes new ≡ string_bytes old ++ more

-- what numbers of a name say, and of which kind they are
abbrev pub head : (name kind help : List ℕ) → List ℕ
head name kind help =
    codes "# HELP " ++ name ++ codes " " ++ help ++ codes "\n# TYPE " ++ name ++ codes " " ++ kind ++ codes "\n"

-- a name with one number
abbrev pub row : (name kind help : List ℕ) → ℕ → List ℕ
row name kind help number = head name kind help ++ name ++ codes " " ++ decimal number ++ codes "\n"

-- a number of one loop, and of one reason
abbrev pub of_loop : (name : List ℕ) → (number count : ℕ) → List ℕ
of_loop name number count =
    name ++ codes "{loop=\"" ++ decimal number ++ codes "\"} " ++ decimal count ++ codes "\n"

abbrev pub for_reason : (name reason : List ℕ) → ℕ → List ℕ
for_reason name reason count =
    name ++ codes "{reason=\"" ++ reason ++ codes "\"} " ++ decimal count ++ codes "\n"

-- counters, which only rise, and what waits
abbrev pub totals_text : Totals → List ℕ
totals_text t =
    row (codes "socketio_commands_total") (codes "counter") (codes "Changes of the state that were accepted.") t.commands
    ++ row (codes "socketio_messages_placed_total") (codes "counter") (codes "Messages put into outboxes.") t.placed
    ++ row (codes "socketio_messages_dropped_total") (codes "counter") (codes "Messages that had no place in one.") t.dropped
    ++ row (codes "socketio_messages_taken_total") (codes "counter") (codes "Messages handed to clients.") t.taken
    ++ row (codes "socketio_messages_discarded_total") (codes "counter")
    (codes "Messages that waited when their client ended.") t.discarded
    ++ row (codes "socketio_messages_waiting") (codes "gauge") (codes "Messages that wait.") t.waiting

abbrev pub unheard_text : ℕ → List ℕ
unheard_text unheard =
    row (codes "socketio_unheard_total") (codes "counter") (codes "Events of clients that went to no backend.") unheard

abbrev pub sizes_text : Sizes → List ℕ
sizes_text s =
    row (codes "socketio_clients") (codes "gauge") (codes "Clients that are open.") s.clients
    ++ row (codes "socketio_sockets") (codes "gauge") (codes "Sockets that are connected to a namespace.") s.sockets
    ++ row (codes "socketio_rooms") (codes "gauge")
    (codes "Rooms that have a socket, each socket's own one among them.") s.rooms
    ++ row (codes "socketio_sessions_saved") (codes "gauge") (codes "Saved sessions, outdated ones among them.") s.saved
    ++ row (codes "socketio_log_entries") (codes "gauge") (codes "Broadcasts that are logged.") s.logged

-- by loop
abbrev pub connections_of : LoopCounts → List ℕ
connections_of it = of_loop (codes "socketio_connections_total") it.number it.connections

abbrev pub connections_text : List LoopCounts → List ℕ
connections_text loops =
    head (codes "socketio_connections_total") (codes "counter") (codes "Connections that a loop was given.")
    ++ flat_map connections_of loops

abbrev pub requests_of : LoopCounts → List ℕ
requests_of it = of_loop (codes "socketio_requests_total") it.number it.requests

abbrev pub requests_text : List LoopCounts → List ℕ
requests_text loops =
    head (codes "socketio_requests_total") (codes "counter") (codes "Requests that came whole to a loop.")
    ++ flat_map requests_of loops

-- by reason
abbrev pub refused_of : Refusals → List ℕ
refused_of it = for_reason (codes "socketio_refused_total") (label it.reason) it.count

abbrev pub refused_text : List Refusals → List ℕ
refused_text refused =
    head (codes "socketio_refused_total") (codes "counter") (codes "What was refused, by reason.")
    ++ flat_map refused_of refused

abbrev pub paced_text : ℕ → List ℕ
paced_text paced =
    row (codes "socketio_paced_total") (codes "counter") (codes "Times that a client sent too fast and wasn't read.") paced

unfoldable pub text_of : CoreCounts → List LoopCounts → List Refusals → (paced : ℕ) → List ℕ
text_of core loops refused paced =
    totals_text core.totals
    ++ unheard_text core.unheard
    ++ sizes_text core.sizes
    ++ connections_text loops
    ++ requests_text loops
    ++ refused_text refused
    ++ paced_text paced
