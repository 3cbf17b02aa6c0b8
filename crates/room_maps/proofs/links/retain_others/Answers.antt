use Rattle.std.proofs.Common.{◌≡◌, ◌<◌, ◌+◌, ◌++◌, ◌∷◌, [], List, length, take, get_or, ◌&&◌, ◌||◌, not, true, false, refl, sym, ℕ, Bool, ap, ◌∙◌, arith, nat_cmp}
use Rattle.std.proofs.lemmas.List.{take_all, take_more}
use Rattle.std.specs.Ordering.{eq_by_cmp}
use Rattle.std.specs.List.{list_any}
use Rattle.std.specs.BTreeSet as sorted
use Rattle.std.proofs.lemmas.List.Folds.{list_any-append}
use Rattle.room_maps.specs.Links.{is_linked, is_in_some}
use Rattle.terms.specs.Room.{room_cmp}
use Rattle.room_maps.proofs.AddressedLemmas.{contains-filter}
use Rattle.room_maps.proofs.links.retain_others.Goals as goal

-- whether none of the rooms passes, with one room more
one_more : (linked : List ℕ → Bool) (rooms : List (List ℕ)) (i : ℕ) (room : List ℕ) (there : Bool) → i < length rooms → room ≡ get_or rooms i room
    → (there && not (list_any linked (take i rooms))) && not (linked room) ≡ there && not (list_any linked (take (i + 1) rooms))
one_more linked rooms i room there low is =
    let more : take (i + 1) rooms ≡ take i rooms ++ room ∷ [] = take_more rooms i room low ∙ ap (λ y. take i rooms ++ y ∷ []) (sym is) in
    apart there (list_any linked (take i rooms)) (linked room)
    ∙ ap (λ b. there && not b) (sym (list_any-append linked (take i rooms) (room ∷ [])) ∙ ap (list_any linked) (sym more))
  where
    apart : (a b c : Bool) → (a && not b) && not c ≡ a && not (b || (c || false))
    apart false b c = refl
    apart true true c = refl
    apart true false true = refl
    apart true false false = refl

pub loop-room-preserved : goal.loop-room-preserved
loop-room-preserved c s =
    let members : ℕ → Bool = λ s. not (sorted.contains nat_cmp c.in-Some.members.now s) in
    ap (list_any (eq_by_cmp nat_cmp s)) c.retain_outside.ensures
    ∙ contains-filter s members c.loop-room.sids.items
    ∙ ap (λ o. list_any (eq_by_cmp nat_cmp s) c.loop-room.sids.items && not (is_in_some nat_cmp o s)) c.in-Some.ensures.value
    ∙ ap (λ b. b && not (is_linked room_cmp nat_cmp c.args.by_room.now c.room-item.result s)) (c.loop-room.invariant s)
    ∙ one_more (λ room. is_linked room_cmp nat_cmp c.args.by_room.now room s) c.args.rooms.now c.loop-room.room-index c.room-item.result
    (list_any (eq_by_cmp nat_cmp s) c.args.sids.now.items) (omega arith) c.room-item.is

pub returns : goal.returns
returns c s =
    let all = take_all c.loop-room.room-index c.args.rooms.now (omega arith) in
    c.loop-room.invariant s
    ∙ ap (λ rooms. list_any (eq_by_cmp nat_cmp s) c.args.sids.now.items && not (list_any (λ room. is_linked room_cmp nat_cmp c.args.by_room.now room s) rooms)) all
