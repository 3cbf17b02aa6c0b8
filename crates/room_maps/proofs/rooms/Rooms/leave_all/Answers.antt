use Rattle.std.proofs.Common.{ap, sym, ◌∙◌}
use Rattle.room_maps.specs.Membership.{without_members}
use Rattle.room_maps.proofs.TogetherLemmas.{inside_apart, without_inside}
use Rattle.room_maps.proofs.rooms.Rooms.leave_all.Goals as goal

pub take_members-requires : goal.take_members-requires
take_members-requires c =
    rw c.deref.ensures.value (inside_apart c.args.self.now c.args.sids.now c.args.room c.in_ok-inside.inside.items c.in_ok-inside.ensures (sym c.leave_all_refusal.ensures ∙ c.in_default.is))

pub returns-clause-left : goal.returns-clause-left
returns-clause-left c =
    c.take_members.ensures
    ∙ ap (λ sids. without_members c.args.self.now sids c.args.room) c.deref.ensures.value
    ∙ without_inside c.args.self.now c.args.sids.now c.args.room c.in_ok-inside.inside.items c.in_ok-inside.ensures
