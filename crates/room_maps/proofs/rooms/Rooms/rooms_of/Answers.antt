use Rattle.std.proofs.Common.{◌≡◌, true, false, refl, sym, ap, ◌∙◌}
use Rattle.std.specs.Prelude.{is_some}
use Rattle.std.specs.FinSet as set
use Rattle.room_maps.specs.Links.{is_in_some}
use Rattle.room_maps.specs.Membership.{is_socket}
use Rattle.terms.specs.Room.{room_cmp}
use Rattle.room_maps.proofs.MembershipLemmas.{few_listed}
use Rattle.room_maps.proofs.MirrorLemmas.{contains-sockets_of}
use Rattle.room_maps.proofs.rooms.Rooms.rooms_of.Goals as goal

pub returns-in_default-clause-refused : goal.returns-in_default-clause-refused
returns-in_default-clause-refused c =
    let lacks : is_socket c.args.self.now c.args.sid ≡ false
    = ap (λ v. is_socket v c.args.sid) (sym c.self.view_is) ∙ contains-sockets_of c.self.inside.by_socket c.args.sid ∙ ap is_some (sym c.in_default.ensures.value) in
    rw lacks refl

pub returns-in_default-clause-memory_alone : goal.returns-in_default-clause-memory_alone
returns-in_default-clause-memory_alone c =
    let lacks : is_socket c.args.self.now c.args.sid ≡ false
    = ap (λ v. is_socket v c.args.sid) (sym c.self.view_is) ∙ contains-sockets_of c.self.inside.by_socket c.args.sid ∙ ap is_some (sym c.in_default.ensures.value) in
    rw lacks (λ none. absurd (cc none))

pub returns-in_err-list-clause-refused : goal.returns-in_err-list-clause-refused
returns-in_err-list-clause-refused c =
    let known : is_socket c.args.self.now c.args.sid ≡ true
    = ap (λ v. is_socket v c.args.sid) (sym c.self.view_is) ∙ contains-sockets_of c.self.inside.by_socket c.args.sid ∙ ap is_some (sym c.in-Some.ensures.value) in
    rw known tt

pub returns-clause-refused : goal.returns-clause-refused
returns-clause-refused c =
    let known : is_socket c.args.self.now c.args.sid ≡ true
    = ap (λ v. is_socket v c.args.sid) (sym c.self.view_is) ∙ contains-sockets_of c.self.inside.by_socket c.args.sid ∙ ap is_some (sym c.in-Some.ensures.value) in
    rw known tt

pub returns-clause-rooms : goal.returns-clause-rooms
returns-clause-rooms c =
    rw c.in_ok-list.ensures.items
    record {
      rises = c.list.ensures.rises;
      exactly = λ r. ap (λ o. is_in_some room_cmp o r) c.in-Some.ensures.value ∙ c.self.invariant.0.sockets_side c.args.sid r ∙ ap (λ v. set.contains v.pairs (c.args.sid, r)) c.self.view_is;
    }

pub returns-clause-few : goal.returns-clause-few
returns-clause-few c =
    let known : is_socket c.args.self.now c.args.sid ≡ true
    = ap (λ v. is_socket v c.args.sid) (sym c.self.view_is) ∙ contains-sockets_of c.self.inside.by_socket c.args.sid ∙ ap is_some (sym c.in-Some.ensures.value) in
    few_listed c.args.self.now c.args.sid _ c.kept_facts.ensures known
    (λ r. rw c.in_ok-list.ensures.items (ap (λ o. is_in_some room_cmp o r) c.in-Some.ensures.value ∙ c.self.invariant.0.sockets_side c.args.sid r ∙ ap (λ v. set.contains v.pairs (c.args.sid, r)) c.self.view_is))
