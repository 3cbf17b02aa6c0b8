-- Rooms that a broadcast names, and what was missed past a place of a log that lies in two pieces.
use Rattle.std.proofs.Common.{◌≡◌, ℕ, zero, suc, ◌-◌, Bool, List, [], ◌∷◌, ◌++◌, length, drop, take, min, map, filter, sym, ap, ◌∙◌, arith}
use Rattle.std.proofs.lemmas.List.{length-drop}
use Rattle.std.proofs.Math.Seq.{take-length}
use Rattle.recovery.specs.PacketLog.{PlainLogged}

-- the offsets of those that pass
abbrev pub offsets_of : (PlainLogged → Bool) → List PlainLogged → List ℕ
offsets_of p es = map (λ (e : PlainLogged). e.offset) (filter p es)

-- a slice from a place on
pub rest_from : (k : ℕ) (xs : List PlainLogged) → take (length xs - k) (drop k xs) ≡ drop k xs
rest_from k xs = ap (λ n. take n (drop k xs)) (sym (length-drop k xs)) ∙ take-length (drop k xs)

-- two pieces past a place
pub drop_pieces : (k : ℕ) (xs ys : List PlainLogged) → drop k (xs ++ ys) ≡ drop (min k (length xs)) xs ++ drop (k - min k (length xs)) ys
drop_pieces zero xs ys =
    let m : min 0 (length xs) ≡ 0 = omega arith in
    ap (λ m. drop m xs ++ drop (0 - m) ys) (sym m)
drop_pieces (suc k) [] ys =
    let m : min (suc k) 0 ≡ 0 = omega arith in
    let n : suc k ≡ suc k - 0 = omega arith in
    ap (λ n. drop n ys) n ∙ ap (λ m. drop {A = PlainLogged} m [] ++ drop (suc k - m) ys) (sym m)
drop_pieces (suc k) (x ∷ xs) ys =
    let m : min (suc k) (suc (length xs)) ≡ suc (min k (length xs)) = omega arith in
    let d : suc k - min (suc k) (suc (length xs)) ≡ k - min k (length xs) = omega arith in
    drop_pieces k xs ys
    ∙ ap (λ d. drop (min k (length xs)) xs ++ drop d ys) (sym d)
    ∙ ap (λ m. drop m (x ∷ xs) ++ drop (suc k - min (suc k) (suc (length xs))) ys) (sym m)
