use Rattle.std.proofs.Common.{◌≤◌, sym, ap, ◌∙◌, subst, ◌||◌}
use Rattle.std.specs.FinSet as set
use Rattle.room_maps.specs.Membership.{is_socket, rooms_in, with_pairs, without_socket}
use Rattle.room_maps.proofs.OrderLemmas.{nat_itself}
use Rattle.room_maps.proofs.MembershipLemmas.{is_socket-with_socket, few_of_new, without_socket-with_socket}
use Rattle.room_maps.proofs.rooms.Rooms.enter_all.Goals as goal

pub add_socket-requires : goal.add_socket-requires
add_socket-requires c = sym c.is_socket.ensures ∙ c.if-is_socket.false

pub add_rooms-requires-clause-known : goal.add_rooms-requires-clause-known
add_rooms-requires-clause-known c =
    ap (λ v. is_socket v c.args.sid) c.in_ok-add_socket.ensures.ok
    ∙ is_socket-with_socket c.args.self.now c.args.sid c.args.sid
    ∙ ap (λ b. b || is_socket c.args.self.now c.args.sid) (nat_itself c.args.sid)

pub add_rooms-requires-clause-few : goal.add_rooms-requires-clause-few
add_rooms-requires-clause-few c =
    let free = sym c.is_socket.ensures ∙ c.if-is_socket.false in
    let few = sym c.are_too_many.ensures ∙ c.if-are_too_many.false in
    subst (λ v. set.len (rooms_in (with_pairs v c.args.sid c.args.rooms.now) c.args.sid) ≤ 256) (sym c.in_ok-add_socket.ensures.ok)
    (few_of_new c.args.self.now c.args.sid c.kept_facts.ensures.known free c.args.rooms.now few)

pub returns-then-is_err-clause-unchanged : goal.returns-then-is_err-clause-unchanged
returns-then-is_err-clause-unchanged c =
    c.take_socket.ensures
    ∙ c.add_rooms.ensures.others
    ∙ ap (λ v. without_socket v c.args.sid) c.in_ok-add_socket.ensures.ok
    ∙ without_socket-with_socket c.args.self.now c.args.sid c.kept_facts.ensures.known (sym c.is_socket.ensures ∙ c.if-is_socket.false)
