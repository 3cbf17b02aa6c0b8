use Rattle.std.proofs.Common.{◌≤◌, suc, take, drop, sym, ap, ◌∙◌, subst}
use Rattle.std.specs.FinSet as set
use Rattle.room_maps.specs.Membership.{is_in, is_full, rooms_in, with_pair, with_pairs, without_socket}
use Rattle.room_maps.proofs.ListLemmas.{parts_at, take_one_more}
use Rattle.room_maps.proofs.MembershipLemmas.{with_pairs-none, with_pairs-more, place_for, without_socket-with_pairs}
use Rattle.room_maps.proofs.rooms.Rooms.add_rooms.Goals as goal

pub loop-room-init : goal.loop-room-init
loop-room-init c = sym (with_pairs-none c.args.self.now c.args.sid)

pub add_missing-requires-clause-few : goal.add_missing-requires-clause-few
add_missing-requires-clause-few c =
    let i = c.loop-room.room-index in
    let rooms = c.args.rooms.now in
    λ absent.
    ap (λ v. is_full v c.args.sid) c.loop-room.invariant
    ∙ place_for c.args.self.now c.args.sid (take i rooms) c.room-item.result (drop (suc i) rooms)
    (subst (λ xs. set.len (rooms_in (with_pairs c.args.self.now c.args.sid xs) c.args.sid) ≤ 256) (parts_at rooms i c.room-item.result c.loop-room-test.true c.room-item.is) c.requires.few)
    (ap (λ v. is_in v c.args.sid c.room-item.result) (sym c.loop-room.invariant) ∙ absent)

pub returns-in_err-add_missing-clause-others : goal.returns-in_err-add_missing-clause-others
returns-in_err-add_missing-clause-others c =
    ap (λ v. without_socket v c.args.sid) (c.in_err-add_missing.ensures.err ∙ c.loop-room.invariant)
    ∙ without_socket-with_pairs c.args.self.now c.args.sid (take c.loop-room.room-index c.args.rooms.now)

pub loop-room-preserved : goal.loop-room-preserved
loop-room-preserved c =
    let i = c.loop-room.room-index in
    c.in_ok-add_missing.ensures.ok
    ∙ ap (λ v. with_pair v c.args.sid c.room-item.result) c.loop-room.invariant
    ∙ sym (with_pairs-more c.args.self.now c.args.sid (take i c.args.rooms.now) c.room-item.result)
    ∙ ap (λ xs. with_pairs c.args.self.now c.args.sid xs) (sym (take_one_more c.args.rooms.now i c.room-item.result c.loop-room-test.true c.room-item.is))

pub returns-clause-others : goal.returns-clause-others
returns-clause-others c =
    ap (λ v. without_socket v c.args.sid) c.loop-room.invariant
    ∙ without_socket-with_pairs c.args.self.now c.args.sid (take c.loop-room.room-index c.args.rooms.now)
