use Rattle.std.proofs.Common.{sym, ap, ◌∙◌, refl, false, subst}
use Rattle.std.specs.BTreeSet as sorted
use Rattle.room_maps.specs.Links.{is_in_some}
use Rattle.terms.specs.Room.{room_cmp}
use Rattle.room_maps.specs.Membership.{without_socket, HasFewRooms}
use Rattle.room_maps.specs.Mirror.{sets_of}
use Rattle.room_maps.proofs.MembershipLemmas.{few_without_socket}
use Rattle.room_maps.proofs.MirrorLemmas.{mirror_without_socket, sets_without_socket}
use Rattle.room_maps.proofs.rooms.Rooms.take_socket.Goals as goal

pub invariant_of-self : goal.invariant_of-self
invariant_of-self c =
    let a = c.self.inside.by_socket in (
      mirror_without_socket a c.remove.new.self c.args.sid c.remove.ensures.updates.0 c.self.inside.by_room c.unlink_all.new.map
          (sorted.contains room_cmp c.in-Some.rooms) c.self.invariant.0
          (λ w. ap (λ o. is_in_some room_cmp o w) c.in-Some.ensures.value)
          c.unlink_all.ensures.links
          (c.unlink_all.ensures.filled c.self.invariant.0.no_empty_room),
      subst HasFewRooms (sym (sets_without_socket a c.remove.new.self c.args.sid c.remove.ensures.updates.0)) (few_without_socket (sets_of a) c.args.sid c.self.invariant.1),
      λ k. rw (c.forget.ensures k) tt,
    )

pub invariant_of-self-in_default : goal.invariant_of-self-in_default
invariant_of-self-in_default c =
    let a = c.self.inside.by_socket in (
      mirror_without_socket a c.remove.new.self c.args.sid c.remove.ensures.updates.0 c.self.inside.by_room c.self.inside.by_room
          (λ w. false) c.self.invariant.0
          (λ w. ap (λ o. is_in_some room_cmp o w) c.in_default.ensures.value)
          (λ w q. refl)
          c.self.invariant.0.no_empty_room,
      subst HasFewRooms (sym (sets_without_socket a c.remove.new.self c.args.sid c.remove.ensures.updates.0)) (few_without_socket (sets_of a) c.args.sid c.self.invariant.1),
      λ k. rw (c.forget.ensures k) tt,
    )

pub returns-in-Some : goal.returns-in-Some
returns-in-Some c =
    sets_without_socket c.self.inside.by_socket c.remove.new.self c.args.sid c.remove.ensures.updates.0 ∙ ap (λ v. without_socket v c.args.sid) c.self.view_is

pub returns-in_default : goal.returns-in_default
returns-in_default c =
    sets_without_socket c.self.inside.by_socket c.remove.new.self c.args.sid c.remove.ensures.updates.0 ∙ ap (λ v. without_socket v c.args.sid) c.self.view_is
