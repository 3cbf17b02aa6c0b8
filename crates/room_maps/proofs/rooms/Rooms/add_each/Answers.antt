use Rattle.std.proofs.Common.{take, sym, ap, ◌∙◌}
use Rattle.room_maps.specs.Membership.{is_in, is_full, with_pair, with_members, without_members}
use Rattle.room_maps.proofs.ListLemmas.{take_one_more}
use Rattle.room_maps.proofs.TogetherLemmas.{with_members-none, with_members-more, is_full-with_members, without_members-with_members, named_at, named-take}
use Rattle.room_maps.proofs.rooms.Rooms.add_each.Goals as goal

pub loop-sid-init : goal.loop-sid-init
loop-sid-init c = sym (with_members-none c.args.self.now c.args.room)

pub add_missing-requires-clause-few : goal.add_missing-requires-clause-few
add_missing-requires-clause-few c =
    let i = c.loop-sid.sid-index in
    let s = c.sid-item.result in
    λ absent.
    ap (λ v. is_full v s) c.loop-sid.invariant
    ∙ is_full-with_members c.args.self.now (take i c.args.sids.now) c.args.room s (ap (λ v. is_in v s c.args.room) (sym c.loop-sid.invariant) ∙ absent)
    ∙ c.requires.few s (named_at c.args.sids.now i s c.loop-sid-test.true c.sid-item.is)

pub returns-in_err-add_missing-clause-others : goal.returns-in_err-add_missing-clause-others
returns-in_err-add_missing-clause-others c =
    ap (λ v. without_members v c.args.sids.now c.args.room) (c.in_err-add_missing.ensures.err ∙ c.loop-sid.invariant)
    ∙ without_members-with_members c.args.self.now (take c.loop-sid.sid-index c.args.sids.now) c.args.sids.now c.args.room (named-take c.args.sids.now c.loop-sid.sid-index)

pub loop-sid-preserved : goal.loop-sid-preserved
loop-sid-preserved c =
    let i = c.loop-sid.sid-index in
    let s = c.sid-item.result in
    c.in_ok-add_missing.ensures.ok
    ∙ ap (λ v. with_pair v s c.args.room) c.loop-sid.invariant
    ∙ sym (with_members-more c.args.self.now (take i c.args.sids.now) s c.args.room)
    ∙ ap (λ sids. with_members c.args.self.now sids c.args.room) (sym (take_one_more c.args.sids.now i s c.loop-sid-test.true c.sid-item.is))

pub returns-clause-others : goal.returns-clause-others
returns-clause-others c =
    ap (λ v. without_members v c.args.sids.now c.args.room) c.loop-sid.invariant
    ∙ without_members-with_members c.args.self.now (take c.loop-sid.sid-index c.args.sids.now) c.args.sids.now c.args.room (named-take c.args.sids.now c.loop-sid.sid-index)
