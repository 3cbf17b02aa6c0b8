-- What one line of a script does to a server, and what it prints.
use Rattle.std.specs.Prelude.{◌≡◌, ◌⊎◌, ℕ, ◌<◌, ◌≤◌, ◌&&◌, Bool, true, false, List, [], ◌++◌, length, codes, decimal, Option, None, Some, Ok, Err}
use Rattle.std.specs.Ordering.{nat_cmp}
use Rattle.std.specs.Map.{update}
use Rattle.std.specs.Str.{bytes_eq}
use Rattle.std.specs.BTreeMap.{get_by_text}
use Rattle.terms.specs.Listing.{ListsRising}
use Rattle.connection.specs.declared.clock.Transport.{Transport}
use Rattle.room_maps.specs.Membership.{is_in}
use Rattle.connection.specs.Line.{PlainLine}
use Rattle.journal.specs.Membership.{place_of, is_open, is_space, is_in_space, rooms}
use Rattle.journal.specs.Seal.{IsSealed}
use Rattle.journal.specs.Totals as counted
use Rattle.events.specs.App.{Policy}
use Rattle.events.specs.declared.event.Event.{Event}
use Rattle.events.specs.declared.event.Event.TheVariants as event
use Rattle.events.specs.declared.outcome.Outcome.TheVariants as outcome
use Rattle.events.specs.Answer.{Answer}
use Rattle.dispatch.specs.Machine.{Does}
use Rattle.dispatch.specs.Holding.{PlainCore, line_of, standing}
use Rattle.dispatch.specs.Takes.{IsOn}
use Rattle.relay.specs.Counter.{counted_from}
use Rattle.script.specs.declared.script_line.ScriptLine.{ScriptLine}
use Rattle.script.specs.declared.script_line.ScriptLine.TheVariants as line
use Rattle.script.specs.declared.play.Play.{Play}
use Rattle.script.specs.Events.{IsEventOf}
use Rattle.script.specs.Printing.{fault_name, outcome_text, ids_text}
use Rattle.script.specs.ScriptLine.{name_in}

-- ---- a server under way

-- the core, the clients that the names stand for, the moment, and the next id
pub record PlainPlay : Type 0 where
  pub core : PlainCore
  pub clients : (name : List ℕ) → Option ℕ
  pub now : ℕ
  pub next : ℕ

-- a server of which nothing was asked yet
abbrev pub new_play : PlainCore → PlainPlay
new_play core = record { core = core; clients = λ name. None; now = 0; next = 1 }

abbrev pub play_of : {C T : Type 0} → Play C T → PlainPlay
play_of play = record { core = play.core; clients = get_by_text play.clients; now = play.now; next = play.ids }

-- ---- what is printed

-- what is printed of an event's answer for the client of this name
abbrev pub told : (name : List ℕ) → Event → Answer → List ℕ
told name event (Ok outcome) = outcome_text name event outcome
told name event (Err e) = codes "refused: " ++ fault_name e.fault

-- ---- names

-- the line is none that is served
abbrev pub IsBadLine : PlainPlay → (said : List ℕ) → PlainPlay → Type 0
IsBadLine s said t = (said ≡ codes "bad line") × (t ≡ s)

-- the line is of no client, or its name stands for none
abbrev pub IsOfNone : ScriptLine → (clients : (name : List ℕ) → Option ℕ) → Type 0
IsOfNone line clients = elim (name_in line) [ None ↦ Unit {0} | Some name ↦ clients name ≡ None ]

-- from now on the name stands for this client, and each other name for what it stood for
pub record Names (name : List ℕ) (c : ℕ) (s t : PlainPlay) : Type 0 where
  pub clients : (other : List ℕ) → t.clients other ≡ update bytes_eq s.clients name (Some c) other
  pub same_core : t.core ≡ s.core
  pub same_now : t.now ≡ s.now
  pub same_next : t.next ≡ s.next

-- the name stands for the client that was opened, if one was
abbrev pub NamesOpened : (name : List ℕ) → Answer → PlainPlay → PlainPlay → Type 0
NamesOpened name (Ok (outcome.Opened opening)) s t = Names name opening.client s t
NamesOpened name _ s t = t ≡ s

-- the client is open and speaks over this transport, or it isn't open
abbrev pub Speaks : (c : ℕ) → Option Transport → PlainCore → Type 0
Speaks c (Some on) core = (line : PlainLine) × (line_of core.lines c ≡ Some line) × IsOn on line
Speaks c None core = is_open core.hub.history.base core.hub.history.journal c ≡ false

-- ---- what no event is asked for

-- the ids of sockets, each after a space
abbrev pub members_text : List ℕ → List ℕ
members_text [] = codes "members -"
members_text ids = codes "members" ++ ids_text ids

-- the sockets in a room of a namespace that the hub has
abbrev pub TellsMembers : (space room : List ℕ) → PlainCore → (said : List ℕ) → Type 0
TellsMembers space room core said =
    let h = core.hub.history in
    elim (is_space h.limits (place_of h.limits space)) [
      | false ↦ said ≡ codes "refused: UnknownNamespace"
      | true ↦ (sids : List ℕ) × ListsRising nat_cmp (λ sid. is_in_space h.base h.journal (place_of h.limits space) sid && is_in (rooms h.base h.journal) sid room) sids × (said ≡ members_text sids)
    ]

-- a room's name has at most 64 bytes
abbrev pub AsksMembers : (space room : List ℕ) → PlainPlay → (said : List ℕ) → Type 0
AsksMembers space room s said =
    ((64 < length room) × (said ≡ codes "bad line"))
    ⊎ ((length room ≤ 64) × TellsMembers space room s.core said)

-- an epoch ends, and the number of its steps is told
pub record Seals (s : PlainPlay) (said : List ℕ) (t : PlainPlay) : Type 0 where
  pub said_is : said ≡ codes "sealed " ++ decimal (length s.core.hub.history.journal)
  pub sealed : IsSealed s.core.hub.history t.core.hub.history
  pub same_lines : t.core.lines ≡ s.core.lines
  pub same_told : t.core.told ≡ s.core.told
  pub same_clients : t.clients ≡ s.clients
  pub same_now : t.now ≡ s.now
  pub same_next : t.next ≡ s.next

-- what the server has counted is told
abbrev pub TellsTotals : PlainPlay → (said : List ℕ) → Type 0
TellsTotals s said = let h = s.core.hub.history in said ≡ counted.totals_text (counted.totals h.base h.limits h.journal)

-- the line prints what the row tells
abbrev pub Prints : (List ℕ → Type 0) → Option (List ℕ) → Type 0
Prints row None = ⊥
Prints row (Some said) = row said

-- ---- an event, and the lines

-- with an app of this policy
module _ (policy : Policy) where
  -- the event happens to the server at its moment, as the machine's row says: the app answers what its policy
  -- allows, and the ids count up; no name stands for another client than before
  pub record Happens (s : PlainPlay) (event : Event) (answer : Answer) (t : PlainPlay) : Type 0 where
    pub does : Does policy s.core.told s.now event
        (standing s.core.hub.history s.core.lines (counted_from s.next)) answer (standing t.core.hub.history t.core.lines (counted_from t.next))
    pub same_told : t.core.told ≡ s.core.told
    pub same_clients : t.clients ≡ s.clients
    pub same_now : t.now ≡ s.now

  -- the event happens, and its own answer is printed
  abbrev pub Asks : (name : List ℕ) → Event → PlainPlay → (said : List ℕ) → PlainPlay → Type 0
  Asks name event s said t = (answer : Answer) × Happens s event answer t × (said ≡ told name event answer)

  -- a client is opened, for which the name stands from now on
  abbrev pub Opens : (name : List ℕ) → (socket : Bool) → PlainPlay → (said : List ℕ) → PlainPlay → Type 0
  Opens name socket s said t = (answer : Answer) × (m : PlainPlay)
      × Happens s (event.Opened socket) answer m × NamesOpened name answer m t × (said ≡ told name (event.Opened socket) answer)

  -- what the line says of the client of this name happens, as the client speaks; where that is nothing the line is bad
  abbrev pub AsksOf : ScriptLine → (name : List ℕ) → (c : ℕ) → PlainPlay → (said : List ℕ) → PlainPlay → Type 0
  AsksOf line name c s said t = (on : Option Transport) × (happens : Option Event) × Speaks c on s.core × IsEventOf line c on happens
      × elim happens [ None ↦ IsBadLine s said t | Some event ↦ Asks name event s said t ]

  -- what a line does for the client that it names, and prints; where its name stands for none it is bad
  abbrev pub RepliesFor : ScriptLine → (name : List ℕ) → PlainPlay → (said : List ℕ) → PlainPlay → Type 0
  RepliesFor line name s said t = elim (s.clients name) [ None ↦ IsBadLine s said t | Some c ↦ AsksOf line name c s said t ]

  -- a line that is of no client that was opened is bad
  abbrev pub RepliesForClient : ScriptLine → PlainPlay → (said : List ℕ) → PlainPlay → Type 0
  RepliesForClient line s said t = elim (name_in line) [ None ↦ IsBadLine s said t | Some name ↦ RepliesFor line name s said t ]

  -- what a line does to the server and prints that always has an answer
  abbrev pub Replies : ScriptLine → PlainPlay → (said : List ℕ) → PlainPlay → Type 0
  Replies (line.Open name) s said t = Opens name.now false s said t
  Replies (line.OpenSocket name) s said t = Opens name.now true s said t
  Replies (line.Members space room) s said t = AsksMembers space.now room.now s said × (t ≡ s)
  Replies line.Totals s said t = TellsTotals s said × (t ≡ s)
  Replies line.Seal s said t = Seals s said t
  Replies line.Sweep s said t = Asks [] event.Sweep s said t
  Replies other s said t = RepliesForClient other s said t

  -- what a line does to the server and prints; its limits can't be set any more
  abbrev pub Plays : ScriptLine → PlainPlay → (said : Option (List ℕ)) → PlainPlay → Type 0
  Plays (line.At moment) s said t = (said ≡ None) × (t ≡ record s { now = moment })
  Plays line.Nothing s said t = (said ≡ None) × (t ≡ s)
  Plays other s said t = Prints (λ text. Replies other s text t) said
