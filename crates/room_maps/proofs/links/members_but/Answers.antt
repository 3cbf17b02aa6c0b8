use Rattle.std.proofs.Common.{◌≡◌, ◌<◌, ◌+◌, ◌++◌, ◌∷◌, [], List, length, take, get_or, ◌&&◌, ◌||◌, not, true, false, refl, sym, ℕ, Bool, subst, ap, ◌∙◌, arith, nat_cmp, rules}
use Rattle.std.proofs.lemmas.List.{take_all, take_more}
use Rattle.std.specs.Ordering.{eq_by_cmp}
use Rattle.std.specs.List.{list_any}
use Rattle.std.proofs.lemmas.List.Folds.{list_any-append}
use Rattle.std.proofs.lemmas.Iterator.Adapters.{items_from_extend}
use Rattle.std.proofs.lemmas.Iterator.Consumers.{YieldsList-from_rest, YieldsList-from_copied}
use Rattle.room_maps.specs.Links.{is_linked, is_in_some}
use Rattle.terms.specs.Room.{room_cmp}
use Rattle.terms.specs.Listing.{ListsRising}
use Rattle.room_maps.proofs.links.members_but.Goals.{In_ok-extend}
use Rattle.room_maps.proofs.links.members_but.Goals as goal

-- whether one of the rooms passes, with one room more
one_more : (linked : List ℕ → Bool) (rooms : List (List ℕ)) (i : ℕ) (room : List ℕ) → i < length rooms → room ≡ get_or rooms i room
    → list_any linked (take i rooms) || linked room ≡ list_any linked (take (i + 1) rooms)
one_more linked rooms i room low is =
    let more : take (i + 1) rooms ≡ take i rooms ++ room ∷ [] = take_more rooms i room low ∙ ap (λ y. take i rooms ++ y ∷ []) (sym is) in
    either (list_any linked (take i rooms)) (linked room)
    ∙ sym (list_any-append linked (take i rooms) (room ∷ [])) ∙ ap (list_any linked) (sym more)
  where
    either : (a b : Bool) → a || b ≡ a || (b || false)
    either true b = refl
    either false true = refl
    either false false = refl

added : (c : In_ok-extend) → (s : ℕ) → list_any (eq_by_cmp nat_cmp s) c.extend.new.self.items
    ≡ (list_any (eq_by_cmp nat_cmp s) c.loop-room.sids.items || is_linked room_cmp nat_cmp c.args.by_room.now c.room-item.result s)
added c s =
    let extended = items_from_extend c.extend.result c.extend.ensures.ran
    (YieldsList-from_copied (YieldsList-from_rest c.in-Some.members.now.keys cc)) in
    let more : c.extend.new.self.items ≡ c.loop-room.sids.items ++ c.in-Some.members.now.keys = search (rules, extended) in
    ap (list_any (eq_by_cmp nat_cmp s)) more
    ∙ list_any-append (eq_by_cmp nat_cmp s) c.loop-room.sids.items c.in-Some.members.now.keys
    ∙ ap (λ o. list_any (eq_by_cmp nat_cmp s) c.loop-room.sids.items || is_in_some nat_cmp o s) c.in-Some.ensures.value

pub loop-room-preserved : goal.loop-room-preserved
loop-room-preserved c s = added c s ∙ ap (λ b. b || is_linked room_cmp nat_cmp c.args.by_room.now c.room-item.result s) (c.loop-room.invariant s)
    ∙ one_more (λ room. is_linked room_cmp nat_cmp c.args.by_room.now room s) c.args.rooms.now c.loop-room.room-index c.room-item.result (omega arith) c.room-item.is

pub returns : goal.returns
returns c =
    let all = take_all c.loop-room.room-index c.args.rooms.now (omega arith) in
    subst (λ test. ListsRising nat_cmp test c.rising.result.items)
    (λ i s. (c.retain_others.ensures s
    ∙ ap (λ b. b && not (list_any (λ room. is_linked room_cmp nat_cmp c.args.by_room.now room s) c.args.excepted.now))
    (c.loop-room.invariant s ∙ ap (list_any (λ room. is_linked room_cmp nat_cmp c.args.by_room.now room s)) all)) i)
    c.rising.ensures
