-- What goes out of what waits.
use Rattle.std.proofs.Common.{◌≡◌, ◌+◌, ◌-◌, ℕ, List, ◌++◌, length, take, drop, Option, refl, sym, append_assoc, arith, length-drop, length-append, take-append-drop}
use Rattle.std.proofs.KnownBytes.{Appends-trans}
use Rattle.std.proofs.lemmas.List.{drop-drop, take_all}
use Rattle.std.proofs.Math.Seq.{drop-append_seam}
use Rattle.std.specs.Io.KnownBytes.{Appends}
use Rattle.tcp_streams.specs.Outputs.{HasGone, HandsFirst}

-- of the bytes past the first s it took k more
pub hands_more : (a b c : Option (List ℕ)) (waited items : List ℕ) (s k : ℕ)
    → HandsFirst a b waited (drop s items)
    → Appends b c (take k (take (length items - s) (drop s items)))
    → HandsFirst a c waited (drop (s + k) items)
hands_more a b c waited items s k h more =
    let rest : take (length items - s) (drop s items) ≡ drop s items = take_all _ _ (search (arith, length-drop)) in
    let more2 : Appends b c (take k (drop s items)) = rw rest at more in
    let split : drop s items ≡ take k (drop s items) ++ drop (s + k) items =
    rw (← drop-drop k s items, take-append-drop k (drop s items)) refl in
    record {
      handed = h.handed ++ take k (drop s items);
      first = rw (h.first, append_assoc h.handed (take k (drop s items)) (drop (s + k) items), ← split) refl;
      once = Appends-trans a b c _ _ h.once more2;
    }

-- what waits no more was handed
pub handed_count : (a b : Option (List ℕ)) (waited waits : List ℕ) (h : HandsFirst a b waited waits)
    → length waited ≡ length h.handed + length waits
handed_count a b waited waits h = rw h.first (length-append h.handed waits)

-- what was handed has gone
pub gone_more : (a b : Option (List ℕ)) (waited waits written : List ℕ) (gone n : ℕ) → HandsFirst a b waited waits
    → length waited ≡ n + length waits → HasGone written gone waited → HasGone written (gone + n) waits
gone_more a b waited waits written gone n h count before =
    let long : n ≡ length h.handed = omega (arith, count, handed_count a b waited waits h) in
    let fits : length waited ≡ length written - gone = rw before.others (length-drop gone written) in
    let rest : waits ≡ drop (length h.handed) waited = rw h.first (sym (drop-append_seam h.handed waits)) in
    record {
      some = omega (arith, count, fits, before.some);
      others = rw (long, ← drop-drop (length h.handed) gone written, ← before.others) rest;
    }
