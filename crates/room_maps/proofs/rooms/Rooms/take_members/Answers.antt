use Rattle.std.proofs.Common.{take, sym, ap, ◌∙◌, arith}
use Rattle.std.proofs.lemmas.List.{take_all}
use Rattle.room_maps.specs.Membership.{without_pair, without_members}
use Rattle.room_maps.proofs.ListLemmas.{take_one_more}
use Rattle.room_maps.proofs.TogetherLemmas.{without_members-none, without_members-more, named_at}
use Rattle.room_maps.proofs.rooms.Rooms.take_members.Goals as goal

pub loop-sid-init : goal.loop-sid-init
loop-sid-init c = sym (without_members-none c.args.self.now c.args.room)

pub take-requires : goal.take-requires
take-requires c = c.requires c.sid-item.result (named_at c.args.sids.now c.loop-sid.sid-index c.sid-item.result c.loop-sid-test.true c.sid-item.is)

pub loop-sid-preserved : goal.loop-sid-preserved
loop-sid-preserved c =
    let i = c.loop-sid.sid-index in
    let s = c.sid-item.result in
    c.take.ensures
    ∙ ap (λ v. without_pair v s c.args.room) c.loop-sid.invariant
    ∙ sym (without_members-more c.args.self.now (take i c.args.sids.now) s c.args.room)
    ∙ ap (λ sids. without_members c.args.self.now sids c.args.room) (sym (take_one_more c.args.sids.now i s c.loop-sid-test.true c.sid-item.is))

pub returns : goal.returns
returns c = c.loop-sid.invariant ∙ ap (λ sids. without_members c.args.self.now sids c.args.room) (take_all c.loop-sid.sid-index c.args.sids.now (omega arith))
