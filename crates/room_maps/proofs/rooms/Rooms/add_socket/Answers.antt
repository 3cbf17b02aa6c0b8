use Rattle.std.proofs.Common.{sym, ap, ◌∙◌, subst, nat_cmp}
use Rattle.terms.specs.Room.{room_cmp}
use Rattle.room_maps.specs.Links.{AddsLink}
use Rattle.room_maps.specs.Membership.{is_socket, with_socket, HasFewRooms}
use Rattle.room_maps.specs.Mirror.{sets_of}
use Rattle.room_maps.proofs.BooleanLemmas.{on_err}
use Rattle.room_maps.proofs.MembershipLemmas.{few_with_socket}
use Rattle.room_maps.proofs.MirrorLemmas.{mirror_unchanged, mirror_with_socket, sets_unchanged, sets_with_socket, not_linked, known_of}
use Rattle.room_maps.proofs.rooms.Rooms.add_socket.Goals as goal

pub add_pair-requires-clause-absent : goal.add_pair-requires-clause-absent
add_pair-requires-clause-absent c = not_linked c.self.inside.by_socket c.args.sid c.own-own.result (ap (λ v. is_socket v c.args.sid) c.self.view_is ∙ c.requires)

pub invariant_of-self : goal.invariant_of-self
invariant_of-self c =
    let h = c.in_err-add_pair.ensures in (
      mirror_unchanged c.self.inside.by_socket c.add_pair.new.by_socket c.self.inside.by_room c.add_pair.new.by_room c.self.invariant.0
          h.sockets_kept h.rooms_kept (c.add_pair.ensures.filled c.self.invariant.0.no_empty_room),
      subst HasFewRooms (sym (sets_unchanged c.self.inside.by_socket c.add_pair.new.by_socket h.sockets_kept)) c.self.invariant.1,
      λ k. rw (c.forget.ensures k) tt,
    )

pub returns-in_err-add_pair-clause-err : goal.returns-in_err-add_pair-clause-err
returns-in_err-add_pair-clause-err c =
    on_err _ _ (sets_unchanged c.self.inside.by_socket c.add_pair.new.by_socket c.in_err-add_pair.ensures.sockets_kept ∙ c.self.view_is)

pub invariant_of-self-2 : goal.invariant_of-self-2
invariant_of-self-2 c =
    let h = c.in_ok-add_pair.ensures in
    let a = c.self.inside.by_socket in
    let n = c.add_pair.new.by_socket in
    let s = c.args.sid in
    let socket_side = subst (λ r. AddsLink nat_cmp room_cmp a n s r) c.own-own.ensures h.added.0 in
    let room_side = subst (λ r. AddsLink room_cmp nat_cmp c.self.inside.by_room c.add_pair.new.by_room r s) c.own-own.ensures h.added.1 in (
      mirror_with_socket a n c.self.inside.by_room c.add_pair.new.by_room s c.self.invariant.0 socket_side room_side (c.add_pair.ensures.filled c.self.invariant.0.no_empty_room),
      subst HasFewRooms (sym (sets_with_socket a n s socket_side))
          (few_with_socket (sets_of a) s (known_of a) (ap (λ v. is_socket v s) c.self.view_is ∙ c.requires) c.self.invariant.1),
      λ k. rw (c.forget.ensures k) tt,
    )

pub returns-clause-ok : goal.returns-clause-ok
returns-clause-ok c =
    let a = c.self.inside.by_socket in
    let n = c.add_pair.new.by_socket in
    sets_with_socket a n c.args.sid (subst (λ r. AddsLink nat_cmp room_cmp a n c.args.sid r) c.own-own.ensures c.in_ok-add_pair.ensures.added.0)
    ∙ ap (λ v. with_socket v c.args.sid) c.self.view_is
