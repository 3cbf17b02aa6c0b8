use Rattle.std.proofs.Common.{◌≡◌, ◌&&◌, sym, ap, subst, ◌∙◌, nat_cmp, not, BTreeSet, List, ℕ, Bool}
use Rattle.std.specs.List.{list_any}
use Rattle.std.specs.BTreeSet as sorted
use Rattle.std.specs.Cmp.{nat_cmp_total}
use Rattle.terms.specs.Room.{room_cmp}
use Rattle.terms.specs.Listing.{ListsRising}
use Rattle.room_maps.specs.Addressed.{is_addressed}
use Rattle.room_maps.specs.Mirror.{is_member_of_one}
use Rattle.room_maps.proofs.AddressedLemmas.{room_named, kept_keys, rises_kept, contains_kept, addressed_sockets, addressed_members}
use Rattle.room_maps.proofs.rooms.Rooms.addressees.Goals as goal

pub returns-in_ok-sockets_but-clause-addressed : goal.returns-in_ok-sockets_but-clause-addressed
returns-in_ok-sockets_but-clause-addressed c =
    let test : BTreeSet (List ℕ) → Bool = λ inside. not (list_any (sorted.contains room_cmp inside) c.args.excepted.now) in
    let entries = c.self.inside.by_socket.entries in
    rw (c.in_ok-sockets_but.ensures.items, kept_keys nat_cmp_total test entries)
    (record {
      rises = rises_kept nat_cmp_total test entries c.sockets_but.ensures.ordered;
      exactly = λ s. contains_kept nat_cmp_total test s entries c.sockets_but.ensures.ordered
          ∙ addressed_sockets c.self.inside.by_socket c.args.rooms.now c.args.excepted.now (sym (c.is_empty.ensures ∙ room_named c.args.rooms.now) ∙ c.if-is_empty.true) s
          ∙ ap (λ v. is_addressed v c.args.rooms.now c.args.excepted.now s) c.self.view_is;
    })

pub returns-in_ok-members_but-clause-addressed : goal.returns-in_ok-members_but-clause-addressed
returns-in_ok-members_but-clause-addressed c =
    let same : (s : ℕ) → (is_member_of_one c.self.inside.by_room c.args.rooms.now s && not (is_member_of_one c.self.inside.by_room c.args.excepted.now s)) ≡ is_addressed c.args.self.now c.args.rooms.now c.args.excepted.now s
    = λ s. addressed_members c.self.inside.by_socket c.self.inside.by_room c.self.invariant.0 c.args.rooms.now c.args.excepted.now
    (sym (c.is_empty.ensures ∙ room_named c.args.rooms.now) ∙ c.if-is_empty.false) s
    ∙ ap (λ v. is_addressed v c.args.rooms.now c.args.excepted.now s) c.self.view_is in
    subst (λ test. ListsRising nat_cmp test c.in_ok-members_but.field-0.items) (λ i s. same s i) c.in_ok-members_but.ensures
