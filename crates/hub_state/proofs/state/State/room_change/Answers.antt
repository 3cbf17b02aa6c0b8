use Rattle.hub_state.specs.Seats.{seat_at}
use Rattle.std.proofs.Common.{◌≡◌, ◌&&◌, not, ap, ℕ, Bool, true, false, List, if◌then◌else◌}
use Rattle.std.specs.Prelude.{MatchBool}
use Rattle.room_maps.specs.Membership.{is_in}
use Rattle.journal.specs.declared.socket.Socket.{Socket}
use Rattle.journal.specs.declared.step.Step.{Step}
use Rattle.journal.specs.Plain.{Limits, PlainBase, PlainRoomChange}
use Rattle.journal.specs.Membership.{sockets, sid_of, rooms, matches}
use Rattle.journal.specs.ManySockets.{may_enter, may_exit, joining, leaving, ListsSockets, RightJoining, RightLeaving}
use Rattle.journal.proofs.ManySocketsLemmas.{matching-lists, sifted, listed}
use Rattle.hub_state.proofs.state.State.room_change.Goals as goal

-- whom the change is for, of all that match
abbrev moves : PlainBase → List Step → List ℕ → Bool → ℕ → Bool
moves base journal room leaves s = if leaves then is_in (rooms base journal) s room else not (is_in (rooms base journal) s room)

module _ (base : PlainBase) (limits : Limits) (journal : List Step) (space : ℕ) (named excepted : List (List ℕ)) (room sids : List ℕ) where
  abbrev change : List ℕ → PlainRoomChange
  change changed = record { space = space; rooms = named; excepted = excepted; room = room; changed = changed }

  right_so : (leaves : Bool) → ListsSockets sid_of (λ (k : Socket). matches base journal space named excepted k && moves base journal room leaves k.sid) (sockets base journal) sids
      → MatchBool leaves (RightLeaving base journal (change sids)) (RightJoining base journal (change sids))
  right_so true lists = record { changed = lists }
  right_so false lists = record { changed = lists }

  same_as : (leaves : Bool) → ListsSockets sid_of (λ (k : Socket). matches base journal space named excepted k && moves base journal room leaves k.sid) (sockets base journal) sids
      → change sids ≡ (if leaves then leaving (record { base = base; limits = limits; journal = journal }) space named excepted room
      else joining (record { base = base; limits = limits; journal = journal }) space named excepted room)
  same_as true lists = ap change (listed sid_of (may_exit base journal space named excepted room) (sockets base journal) sids lists)
  same_as false lists = ap change (listed sid_of (may_enter base journal space named excepted room) (sockets base journal) sids lists)

pub returns-clause-right : goal.returns-clause-right
returns-clause-right c =
    let base = c.self.inside.base in
    let limits = c.self.inside.limits in
    let journal = c.self.inside.records.steps.steps in
    let inside = rw (← c.self.view_is, c.deref.ensures.value, c.deref-2.ensures.value) at c.in_ok-changed.ensures.ok in
    let lists = rw (← c.keep_here.ensures) at (matching-lists base limits journal c.self.invariant.2 (seat_at c.self.inside.live.seats) c.self.invariant.0.seats c.args.space c.args.rooms.items c.args.excepted.items c.in_ok-changed.changed.items inside) in
    let kept = rw c.self.invariant.0.rooms_are at c.keep_members.ensures in
    let right : ListsSockets sid_of (λ (k : Socket). matches base journal c.args.space c.args.rooms.items c.args.excepted.items k && moves base journal c.args.room c.args.leaves k.sid) (sockets base journal) c.keep_members.new.sids.items
    = rw kept (sifted base limits journal c.self.invariant.2 (seat_at c.self.inside.live.seats) c.self.invariant.0.seats c.args.space c.args.rooms.items c.args.excepted.items (moves base journal c.args.room c.args.leaves) c.keep_here.new.sids.items lists) in
    rw (← c.self.view_is) (right_so base limits journal c.args.space c.args.rooms.items c.args.excepted.items c.args.room c.keep_members.new.sids.items c.args.leaves right)

pub returns-clause-change : goal.returns-clause-change
returns-clause-change c =
    let base = c.self.inside.base in
    let limits = c.self.inside.limits in
    let journal = c.self.inside.records.steps.steps in
    let inside = rw (← c.self.view_is, c.deref.ensures.value, c.deref-2.ensures.value) at c.in_ok-changed.ensures.ok in
    let lists = rw (← c.keep_here.ensures) at (matching-lists base limits journal c.self.invariant.2 (seat_at c.self.inside.live.seats) c.self.invariant.0.seats c.args.space c.args.rooms.items c.args.excepted.items c.in_ok-changed.changed.items inside) in
    let kept = rw c.self.invariant.0.rooms_are at c.keep_members.ensures in
    let right : ListsSockets sid_of (λ (k : Socket). matches base journal c.args.space c.args.rooms.items c.args.excepted.items k && moves base journal c.args.room c.args.leaves k.sid) (sockets base journal) c.keep_members.new.sids.items
    = rw kept (sifted base limits journal c.self.invariant.2 (seat_at c.self.inside.live.seats) c.self.invariant.0.seats c.args.space c.args.rooms.items c.args.excepted.items (moves base journal c.args.room c.args.leaves) c.keep_here.new.sids.items lists) in
    rw (← c.self.view_is) (same_as base limits journal c.args.space c.args.rooms.items c.args.excepted.items c.args.room c.keep_members.new.sids.items c.args.leaves right)
