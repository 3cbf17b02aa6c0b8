use Rattle.std.proofs.Common.{◌≡◌, ap, sym, ◌∙◌, rules}
use Rattle.room_maps.specs.Membership.{with_members}
use Rattle.room_maps.proofs.TogetherLemmas.{outside_known, outside_absent, outside_few, with_outside, without_members-absent, not_own_room}
use Rattle.room_maps.proofs.rooms.Rooms.join_all.Goals as goal

pub add_each-requires-clause-known : goal.add_each-requires-clause-known
add_each-requires-clause-known c =
    rw c.deref.ensures.value (outside_known c.args.self.now c.args.sids.now c.args.room c.in_ok-outside.outside.items (sym c.join_all_refusal.ensures ∙ c.in_default.is) c.in_ok-outside.ensures)

pub add_each-requires-clause-few : goal.add_each-requires-clause-few
add_each-requires-clause-few c =
    rw c.deref.ensures.value (outside_few c.args.self.now c.args.sids.now c.args.room c.in_ok-outside.outside.items (sym c.join_all_refusal.ensures ∙ c.in_default.is) c.in_ok-outside.ensures)

pub take_members-requires : goal.take_members-requires
take_members-requires c =
    let free = sym c.join_all_refusal.ensures ∙ c.in_default.is in
    rw c.deref-then-is_err.ensures.value (λ s named. not_own_room c.args.self.now s c.args.room c.kept_facts.ensures
    (outside_known c.args.self.now c.args.sids.now c.args.room c.in_ok-outside.outside.items free c.in_ok-outside.ensures s named)
    (outside_absent c.args.self.now c.args.sids.now c.args.room c.in_ok-outside.outside.items free c.in_ok-outside.ensures s named))

pub returns-then-is_err-clause-unchanged : goal.returns-then-is_err-clause-unchanged
returns-then-is_err-clause-unchanged c =
    rw c.deref-then-is_err.ensures.value at c.take_members.ensures
    ∙ rw c.deref.ensures.value at c.add_each.ensures.others
    ∙ without_members-absent c.args.self.now c.in_ok-outside.outside.items c.args.room
    (outside_absent c.args.self.now c.args.sids.now c.args.room c.in_ok-outside.outside.items (sym c.join_all_refusal.ensures ∙ c.in_default.is) c.in_ok-outside.ensures)

pub returns-clause-joined : goal.returns-clause-joined
returns-clause-joined c =
    let ok : c.add_each.new.self ≡ with_members c.args.self.now c.deref.result.now c.args.room = search rules in
    ok
    ∙ ap (λ sids. with_members c.args.self.now sids c.args.room) c.deref.ensures.value
    ∙ with_outside c.args.self.now c.args.sids.now c.args.room c.in_ok-outside.outside.items (sym c.join_all_refusal.ensures ∙ c.in_default.is) c.in_ok-outside.ensures
