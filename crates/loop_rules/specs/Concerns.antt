-- Whom the answer to an event of a connection concerns.
use Rattle.std.specs.Prelude.{◌≡◌, ◌⊎◌, ◌<◌, ℕ, true, cond, None, Some, List, [], length, slice_index_or, IfSome}
use Rattle.events.specs.Answer.{Answer}
use Rattle.events.specs.Plain.{PlainDone}
use Rattle.loop_rules.specs.Rosters.{AreTold, IsWoken}
use Rattle.loop_rules.specs.Rotas.{Waiting, look_of, will_look}
use Rattle.loop_rules.specs.Takers.{taker_of}
use Rattle.loop_rules.specs.declared.roster.Notes.{Notes}
use Rattle.loop_rules.specs.declared.roster.Roster.{Roster}
use Rattle.loop_rules.specs.declared.roster.Takers.{Takers}
use Rattle.loop_rules.specs.Course.{is_socket}
use Rattle.loop_rules.specs.Heard.{done_of}
use Rattle.loop_rules.specs.Links.{assigned_at, link_at}
use Rattle.loop_rules.specs.declared.heard.Concern.{Concern}
use Rattle.loop_rules.specs.declared.heard.Concern.TheVariants as concern
use Rattle.loop_rules.specs.declared.link.Link.{Link}

-- what is put for a client goes over this connection, or where there is no memory to list that, over any
abbrev pub IsListed : (client key : ℕ) → Takers → Type 0
IsListed client key t = (taker_of t client ≡ Some key) ⊎ ((taker_of t client ≡ None) × (t.unlisted ≡ true))

-- the connection over which a client is told what is put for it will look, or its look has yet to take that
abbrev pub IsWokenFor : (client : ℕ) → Roster → Type 0
IsWokenFor client r = IsWoken (taker_of r.takers client) r.takers.unlisted r.rota.looks

abbrev pub AllWillLook : Waiting → Type 0
AllWillLook w = (key : ℕ) → key < length w.looks → will_look (look_of w.looks key) ≡ true

-- all for whom an event put something are woken, or noted for their loop
abbrev lists_of : PlainDone → List (List ℕ)
lists_of done = done.clients

abbrev pub AreAllTold : (own loops : ℕ) → PlainDone → Roster → Notes → Type 0
AreAllTold own loops done r notes =
    (k : ℕ) → k < length (lists_of done) → AreTold own loops (slice_index_or (lists_of done) k []) r notes

-- so are all for whom the event put something that was answered so
abbrev pub AreToldOf : (own loops : ℕ) → Answer → Roster → Notes → Type 0
AreToldOf own loops got r notes = IfSome (done_of got) (λ done. AreAllTold own loops done r notes)

-- one that is told what is put for its client speaks for it
abbrev pub heeded : (key : ℕ) → Concern → List Link → List Link
heeded key concern.Opens links = cond (is_socket (link_at links key).course) (assigned_at key links) links
heeded key concern.Takes links = assigned_at key links
heeded key concern.ComesOver links = assigned_at key links
heeded key _ links = links
