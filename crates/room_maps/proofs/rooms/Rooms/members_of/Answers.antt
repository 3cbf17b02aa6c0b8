use Rattle.std.proofs.Common.{ap, ◌∙◌, nat_cmp}
use Rattle.std.specs.FinSet as set
use Rattle.std.specs.List.Sorted.{IsStrictlySortedBy}
use Rattle.room_maps.specs.Links.{is_in_some}
use Rattle.room_maps.proofs.rooms.Rooms.members_of.Goals as goal

pub returns-in_ok-list-in-Some-clause-members : goal.returns-in_ok-list-in-Some-clause-members
returns-in_ok-list-in-Some-clause-members c =
    rw c.in_ok-list-in-Some.ensures.items
    record {
      rises = c.list.ensures.rises;
      exactly = λ s. ap (λ o. is_in_some nat_cmp o s) c.in-Some.ensures.value ∙ c.self.invariant.0.rooms_side s c.args.room ∙ ap (λ v. set.contains v.pairs (s, c.args.room)) c.self.view_is;
    }

pub returns-in-None-clause-members : goal.returns-in-None-clause-members
unfolding IsStrictlySortedBy
returns-in-None-clause-members c =
    rw c.new.ensures.items
    record {
      rises = tt;
      exactly = λ s. ap (λ o. is_in_some nat_cmp o s) c.in-None.ensures.value ∙ c.self.invariant.0.rooms_side s c.args.room ∙ ap (λ v. set.contains v.pairs (s, c.args.room)) c.self.view_is;
    }
