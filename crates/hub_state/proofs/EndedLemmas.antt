-- What a step adds to the sockets that ended.
use Rattle.hub_state.specs.Seats.{seat_at}
use Rattle.std.proofs.Common.{◌≡◌, ℕ, Bool, true, false, List, [], ◌++◌, ◌∷◌, refl, sym, ap, subst, ◌∙◌, append-nil, Option, None, Some, if◌then◌else◌, nat_eq}
use Rattle.std.specs.List.{AllByRecursion}
use Rattle.std.specs.Ordering.{nat_cmp}
use Rattle.std.specs.HashMap.{get}
use Rattle.std.specs.BTreeSet as sorted
use Rattle.journal.specs.declared.step.Step.{Step}
use Rattle.journal.specs.declared.socket.Socket.{Socket}
use Rattle.journal.specs.Plain.{PlainBase, PlainClient, Limits}
use Rattle.journal.specs.Fields.{Fields, Counted, client_at, held_sockets}
use Rattle.journal.specs.Legal.{IsLegal, IsSound}
use Rattle.journal.specs.declared.totals.Counts.{Counts}
use Rattle.room_maps.specs.Membership.{RoomSets}
use Rattle.recovery.specs.SavedTable.{TableContents}
use Rattle.recovery.specs.PacketLog.{LogContents}
use Rattle.journal.specs.Outboxes.{waiting}
use Rattle.journal.specs.Membership.{is_open, sockets, sockets_of}
use Rattle.journal.proofs.HubLemmas.{sockets_of-none}
use Rattle.journal.proofs.CommandLemmas.{IsHub}
use Rattle.hub_state.specs.declared.state.State.TheInside.{Inside}
use Rattle.hub_state.specs.EndedSockets.{PlainEnded, sockets_ended_by, ended_sockets}
use Rattle.hub_state.specs.Inside.{Describes}

-- what the state says beside it
pub hub-of : (h : Inside) → Describes h
    → IsHub h.base h.limits (get nat_eq h.clients) (seat_at h.live.seats) (sorted.contains nat_cmp h.live.pids) h.live.rooms h.saved h.log h.records.last h.records.counts (h.records.steps.steps)
hub-of h holds = (holds.0, holds.1, holds.2, holds.3)

-- and this too
pub plus : {A B C D E : Type 0} → A × B × C × D → E → A × B × C × D × E
plus hub more = (hub.0, hub.1, hub.2, hub.3, more)

-- the same of what is written down of the commands, in other words
pub recorded : (base : PlainBase) (limits : Limits) (find : ℕ → Option PlainClient) (seat : ℕ → Option Socket) (is_pid : ℕ → Bool) (sets : RoomSets) (table : TableContents) (packets : LogContents) (list : List PlainEnded)
    (newest new : ℕ) (counts counted : Counts) (journal steps : List Step) → new ≡ newest → counted ≡ counts → steps ≡ journal
    → Fields base limits find seat is_pid sets table packets newest journal × IsLegal base limits journal × IsSound base limits journal × Counted base limits counts journal × (list ≡ ended_sockets base journal)
    → Fields base limits find seat is_pid sets table packets new steps × IsLegal base limits steps × IsSound base limits steps × Counted base limits counted steps × (list ≡ ended_sockets base steps)
recorded base limits find seat is_pid sets table packets list newest new counts counted journal steps last count is hub =
    subst (λ n. Fields base limits find seat is_pid sets table packets n steps × IsLegal base limits steps × IsSound base limits steps × Counted base limits counted steps × (list ≡ ended_sockets base steps)) (sym last)
    (subst (λ k. Fields base limits find seat is_pid sets table packets newest steps × IsLegal base limits steps × IsSound base limits steps × Counted base limits k steps × (list ≡ ended_sockets base steps)) (sym count)
    (subst (λ js. Fields base limits find seat is_pid sets table packets newest js × IsLegal base limits js × IsSound base limits js × Counted base limits counts js × (list ≡ ended_sockets base js)) (sym is) hub))

-- a step that ends none
pub none-ended : (base : PlainBase) (before : List Step) (step : Step) (list : List PlainEnded) → list ≡ ended_sockets base before → sockets_ended_by base before step.what ≡ [] → list ≡ ended_sockets base (step ∷ before)
unfolding ended_sockets
none-ended base before step list is none = is ∙ sym (ap (λ xs. ended_sockets base before ++ xs) none ∙ append-nil (ended_sockets base before))

-- and one that ends these
pub some-ended : (base : PlainBase) (before : List Step) (step : Step) (list ended new : List PlainEnded) → list ≡ ended_sockets base before → ended ≡ sockets_ended_by base before step.what → new ≡ list ++ ended → new ≡ ended_sockets base (step ∷ before)
unfolding ended_sockets
some-ended base before step list ended new is which more = more ∙ ap (λ xs. xs ++ ended) is ∙ ap (λ xs. ended_sockets base before ++ xs) which

-- nobody has since the base
pub nobody-ended : (base : PlainBase) (list : List PlainEnded) → list ≡ [] → list ≡ ended_sockets base []
unfolding ended_sockets
nobody-ended base list none = none

-- what is held of a client's sockets is all of them: one that isn't open has none
pub held-all : (base : PlainBase) (limits : Limits) (find : ℕ → Option PlainClient) (journal : List Step) (c : ℕ) → ((q : ℕ) → find q ≡ client_at base limits journal q)
    → AllByRecursion (λ (k : Socket). is_open base journal k.client ≡ true) (sockets base journal) → held_sockets (find c) ≡ sockets_of base journal c
held-all base limits find journal c are known = ap held_sockets (are c) ∙ on (is_open base journal c) refl
  where
    on : (b : Bool) → is_open base journal c ≡ b
        → held_sockets (if b then Some (record { sockets = sockets_of base journal c; outbox = record { waiting = waiting base limits journal c; capacity = limits.capacity; bytes = limits.bytes } }) else None) ≡ sockets_of base journal c
    on true e = refl
    on false e = sym (sockets_of-none base limits c journal e known)
