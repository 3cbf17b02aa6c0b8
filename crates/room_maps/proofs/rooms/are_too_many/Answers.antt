use Rattle.std.proofs.Common.{◌≡◌, ◌<◌, ◌≤◌, ◌+◌, ℕ, ◌∷◌, length, nat_le, nat_lt, true, false, sym, ap, ◌∙◌, arith}
use Rattle.std.specs.FinSet as set
use Rattle.std.proofs.lemmas.Bool.Decides.{nat_tests}
use Rattle.terms.specs.Room.{room_cmp, own_room, same_room}
use Rattle.std.specs.List.{list_any}
use Rattle.room_maps.proofs.OrderLemmas.{len-from_cons, len-from_list}
use Rattle.room_maps.proofs.rooms.are_too_many.Goals as goal

few : (n m : ℕ) → n ≤ m → m < 257 → nat_lt 256 n ≡ false
few n m h k = grind (arith, nat_tests)

more : (n m : ℕ) → m ≡ n + 1 → nat_le 256 n ≡ nat_lt 256 m
more n m h = grind (arith, nat_tests)

pub returns-then-rooms-lt-MOST_ROOMS : goal.returns-then-rooms-lt-MOST_ROOMS
returns-then-rooms-lt-MOST_ROOMS c =
    sym (few (set.len (set.from_list {R = room_cmp} (own_room c.args.sid ∷ c.args.rooms.now))) (length (own_room c.args.sid ∷ c.args.rooms.now)) (len-from_list (own_room c.args.sid ∷ c.args.rooms.now)) (omega (arith, c.if-rooms-lt-MOST_ROOMS.true)))

pub returns-then-contains : goal.returns-then-contains
returns-then-contains c =
    ap (nat_lt 256)
    (c.distinct-named.ensures.count
    ∙ sym (len-from_cons (own_room c.args.sid) c.args.rooms.now true (ap (λ r. list_any (λ y. same_room y r) c.args.rooms.now) (sym c.own.ensures) ∙ sym c.contains.ensures.value ∙ c.if-contains.true)))

pub returns-else-contains : goal.returns-else-contains
returns-else-contains c =
    more c.distinct-named.result (set.len (set.from_list {R = room_cmp} (own_room c.args.sid ∷ c.args.rooms.now)))
    (len-from_cons (own_room c.args.sid) c.args.rooms.now false (ap (λ r. list_any (λ y. same_room y r) c.args.rooms.now) (sym c.own.ensures) ∙ sym c.contains.ensures.value ∙ c.if-contains.false)
    ∙ ap (λ n. n + 1) (sym c.distinct-named.ensures.count))
