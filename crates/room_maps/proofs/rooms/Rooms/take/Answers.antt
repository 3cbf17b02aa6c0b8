use Rattle.std.proofs.Common.{sym, ap, ◌∙◌, subst}
use Rattle.room_maps.specs.Membership.{without_pair, HasFewRooms}
use Rattle.room_maps.specs.Mirror.{sets_of}
use Rattle.room_maps.proofs.MembershipLemmas.{few_without_pair}
use Rattle.room_maps.proofs.MirrorLemmas.{mirror_without_pair, sets_without_pair, filled_sockets}
use Rattle.room_maps.proofs.rooms.Rooms.take.Goals as goal

pub invariant_of-self : goal.invariant_of-self
invariant_of-self c =
    let a = c.self.inside.by_socket in
    let n = c.unlink.new.map in
    let filled = c.unlink.ensures.filled (filled_sockets a c.self.inside.by_room c.self.invariant.0) in (
      mirror_without_pair a n c.self.inside.by_room c.args.sid c.args.room c.self.invariant.0 c.unlink.ensures.links c.requires filled
          c.unlink-2.new.map c.unlink-2.ensures.links (c.unlink-2.ensures.filled c.self.invariant.0.no_empty_room),
      subst HasFewRooms (sym (sets_without_pair a n c.self.inside.by_room c.args.sid c.args.room c.self.invariant.0 c.unlink.ensures.links c.requires filled))
          (few_without_pair (sets_of a) c.args.sid c.args.room c.self.invariant.1),
      λ k. rw (c.forget.ensures k) tt,
    )

pub returns : goal.returns
returns c =
    let a = c.self.inside.by_socket in
    sets_without_pair a c.unlink.new.map c.self.inside.by_room c.args.sid c.args.room c.self.invariant.0 c.unlink.ensures.links c.requires
    (c.unlink.ensures.filled (filled_sockets a c.self.inside.by_room c.self.invariant.0))
    ∙ ap (λ v. without_pair v c.args.sid c.args.room) c.self.view_is
