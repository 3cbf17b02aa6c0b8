-- What every core keeps, so that whoever takes its lock finds it; when a core is sealed, and what it is then.
use Rattle.std.specs.Prelude.{◌≡◌, ◌⊎◌, ℕ, ◌<◌, ◌≤◌, List, ◌∷◌, ◌++◌, length, is_some, Option, None, Some, Result, Ok, Err}
use Rattle.std.specs.Ordering.{nat_cmp}
use Rattle.std.specs.BTreeMap.{get}
use Rattle.room_maps.specs.Links.{is_linked}
use Rattle.room_maps.specs.Mirror.{SocketMap, RoomMap, IsMirrored}
use Rattle.terms.specs.Room.{room_cmp}
use Rattle.journal.specs.declared.step.Step.{Step}
use Rattle.journal.specs.declared.step.What.TheVariants.{Cast}
use Rattle.journal.specs.Plain.{Limits, PlainBroadcast}
use Rattle.journal.specs.Journal.{History, history}
use Rattle.journal.specs.Membership.{rooms}
use Rattle.journal.specs.Broadcast.{RightCast}
use Rattle.journal.specs.Legal.{IsLegal, IsSound}
use Rattle.journal.specs.Seal.{PlainEpoch, SealsAs}
use Rattle.hub_state.specs.EndedSockets.{held}
use Rattle.events.specs.declared.fault.CoreError.{CoreError}
use Rattle.hub_totals.specs.Pass.{PlainPass, AtLeast}
use Rattle.dispatch.specs.Holding.{PlainCore, Agree, IsClean}

-- a map of sockets to rooms and one of rooms to sockets hold what these hold: the same sockets, each with the same
-- rooms, and the same sockets in each room
pub record HoldSame (of_socket : SocketMap) (of_room : RoomMap) (these : SocketMap) (those : RoomMap) : Type 0 where
  pub sockets : (sid : ℕ) → is_some (get nat_cmp of_socket sid) ≡ is_some (get nat_cmp these sid)
  pub rooms_of : (sid : ℕ) (room : List ℕ) → is_linked nat_cmp room_cmp of_socket sid room ≡ is_linked nat_cmp room_cmp these sid room
  pub sockets_in : (sid : ℕ) (room : List ℕ) → is_linked room_cmp nat_cmp of_room room sid ≡ is_linked room_cmp nat_cmp those room sid

-- two maps, of sockets to rooms and of rooms to sockets, hold the history's rooms and mirror each other; each
-- socket is in its own room, and no room is empty (Socket.IO server documentation, "Rooms"). They are those of the
-- hub: `mirrors_of` lends the two maps of a core that is lent, which hold the history's rooms, so what these hold
pub record HasMirror (h : History) : Type 0 where
  pub of_socket : SocketMap
  pub of_room : RoomMap
  pub mirrored : IsMirrored (rooms h.base h.journal) of_socket of_room
  pub lent : (a : SocketMap) (b : RoomMap) → IsMirrored (rooms h.base h.journal) a b → HoldSame a b of_socket of_room

-- each broadcast of the journal stands once in the outbox history of every addressee, or is counted as dropped
abbrev pub CastsOnce : History → Type 0
CastsOnce h = (later before : List Step) (step : Step) (b : PlainBroadcast)
    → h.journal ≡ later ++ step ∷ before → step.what ≡ Cast b → RightCast h.base h.limits before step b

-- each step was allowed by those before it; the room maps mirror each other; no session is both saved and connected and
-- the log's offsets rise, among all that is sound; each broadcast is told once
pub record IsKept (h : History) : Type 0 where
  pub legal : IsLegal h.base h.limits h.journal
  pub mirror : HasMirror h
  pub sound : IsSound h.base h.limits h.journal
  pub casts : CastsOnce h

-- the hub's history has all this; there is a line for just the open clients, and no entry holds U+001E
pub record IsSoundCore (core : PlainCore) : Type 0 where
  pub kept : IsKept core.hub.history
  pub lines : Agree core.hub.history core.lines
  pub clean : IsClean core.hub.history

-- a core that a worker may apply events to: it is sound, and has counted at least what the worker's pass has
abbrev pub IsReady : PlainCore → PlainPass → Type 0
IsReady core pass = IsSoundCore core × AtLeast core.hub pass

-- the journal has fewer steps than that, and these hold fewer bytes
abbrev pub IsShort : (least bytes : ℕ) → History → Type 0
IsShort least bytes h = (length h.journal < least) × (held h < bytes)

-- the journal has at least so many steps, or these hold at least so many bytes
abbrev pub IsLong : (least bytes : ℕ) → History → Type 0
IsLong least bytes h = (least ≤ length h.journal) ⊎ (bytes ≤ held h)

-- a base and a journal that a core had, which is long
pub record IsOfCore (least bytes : ℕ) (epoch : PlainEpoch) : Type 0 where
  pub limits : Limits
  pub kept : IsKept (history epoch.base limits epoch.journal)
  pub enough : IsLong least bytes (history epoch.base limits epoch.journal)

-- the epoch is all that the core had, what is said of the core stays the same, and so does all of it but the history
pub record SealsCore (before : PlainCore) (epoch : PlainEpoch) (after : PlainCore) : Type 0 where
  pub seals : SealsAs before.hub.history epoch after.hub.history
  pub kept : after ≡ record before { hub = record before.hub { history = after.hub.history } }

-- a core whose journal is short stays as it is, and one whose journal is long is sealed, or after an error as it was
abbrev pub Seals : (least bytes : ℕ) → PlainCore → Result (Option PlainEpoch) CoreError → PlainCore → Type 0
Seals least bytes before (Ok None) after = IsShort least bytes before.hub.history × (after ≡ before)
Seals least bytes before (Ok (Some epoch)) after =
    IsLong least bytes before.hub.history × SealsCore before epoch after
Seals least bytes before (Err e) after = IsLong least bytes before.hub.history × (after ≡ before)
