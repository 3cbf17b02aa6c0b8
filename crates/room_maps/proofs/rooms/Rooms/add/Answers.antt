use Rattle.std.proofs.Common.{sym, ap, ◌∙◌, subst}
use Rattle.room_maps.specs.Membership.{is_socket, is_full, with_pair, HasFewRooms}
use Rattle.room_maps.specs.Mirror.{sets_of}
use Rattle.room_maps.proofs.BooleanLemmas.{on_err}
use Rattle.room_maps.proofs.MembershipLemmas.{few_with_pair}
use Rattle.room_maps.proofs.MirrorLemmas.{mirror_unchanged, mirror_with_pair, sets_unchanged, sets_with_pair}
use Rattle.room_maps.proofs.rooms.Rooms.add.Goals as goal

pub invariant_of-self : goal.invariant_of-self
invariant_of-self c =
    let h = c.in_err-add_pair.ensures in (
      mirror_unchanged c.self.inside.by_socket c.add_pair.new.by_socket c.self.inside.by_room c.add_pair.new.by_room c.self.invariant.0
          h.sockets_kept h.rooms_kept (c.add_pair.ensures.filled c.self.invariant.0.no_empty_room),
      subst HasFewRooms (sym (sets_unchanged c.self.inside.by_socket c.add_pair.new.by_socket h.sockets_kept)) c.self.invariant.1,
      λ k. rw (c.forget.ensures k) tt,
    )

pub returns-in_err-add_pair-clause-err : goal.returns-in_err-add_pair-clause-err
returns-in_err-add_pair-clause-err c =
    on_err _ _ (sets_unchanged c.self.inside.by_socket c.add_pair.new.by_socket c.in_err-add_pair.ensures.sockets_kept ∙ c.self.view_is)

pub invariant_of-self-2 : goal.invariant_of-self-2
invariant_of-self-2 c =
    let h = c.in_ok-add_pair.ensures in
    let known = ap (λ v. is_socket v c.args.sid) c.self.view_is ∙ c.requires.known in (
      mirror_with_pair c.self.inside.by_socket c.add_pair.new.by_socket c.self.inside.by_room c.add_pair.new.by_room c.args.sid c.args.room c.self.invariant.0
          h.added.0 h.added.1 known (c.add_pair.ensures.filled c.self.invariant.0.no_empty_room),
      subst HasFewRooms (sym (sets_with_pair c.self.inside.by_socket c.add_pair.new.by_socket c.args.sid c.args.room h.added.0 known))
          (few_with_pair (sets_of c.self.inside.by_socket) c.args.sid c.args.room c.self.invariant.1 (ap (λ v. is_full v c.args.sid) c.self.view_is ∙ c.requires.few)),
      λ k. rw (c.forget.ensures k) tt,
    )

pub returns-clause-ok : goal.returns-clause-ok
returns-clause-ok c =
    sets_with_pair c.self.inside.by_socket c.add_pair.new.by_socket c.args.sid c.args.room c.in_ok-add_pair.ensures.added.0 (ap (λ v. is_socket v c.args.sid) c.self.view_is ∙ c.requires.known)
    ∙ ap (λ v. with_pair v c.args.sid c.args.room) c.self.view_is
