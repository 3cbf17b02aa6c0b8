-- How many bytes in front stand for themselves, where eight are looked at together.
use Rattle.std.proofs.Common.{◌≡◌, ℕ, ◌+◌, ◌*◌, ◌%◌, ◌^◌, ◌<◌, ◌≤◌, ltb, eqb, ◌==◌, Bool, true, false, not, ◌||◌, cond, List, [], ◌∷◌, length, map, drop, replicate, refl, sym, ap, ◌∙◌, arith}
use Rattle.std.proofs.lemmas.Bool.{eq-eqb, ne_eqb}
use Rattle.std.proofs.lemmas.List.{length-map}
use Rattle.std.proofs.lemmas.List.Folds.{prefix_len-append}
use Rattle.std.proofs.lemmas.List.Sums.{prefix_len-le-length}
use Rattle.std.proofs.lemmas.Simd.{zip2_splat, zip2_of_maps, map-map, mask_l-mod, chunk-drop, length-chunk, leading_from_mask_l, trailing_mask_l}
use Rattle.std.specs.List.{prefix_len}
use Rattle.sio_wire.specs.Texts.{is_special, is_verbatim}
use lib.Bits.{bit_or}
use lib.Lanes.{zip2, mask_l, top, chunk}
use lib.Count.{count_trailing_zeros}

either_lane : (a b : Bool) → bit_or (cond a 255 0) (cond b 255 0) ≡ cond (a || b) 255 0
either_lane true true = refl
either_lane true false = refl
either_lane false true = refl
either_lane false false = refl

either : (p q : ℕ → Bool) (v : List ℕ) {a b : List ℕ} → a ≡ map (λ x. cond (p x) 255 0) v → b ≡ map (λ x. cond (q x) 255 0) v → zip2 bit_or a b ≡ map (λ x. cond (p x || q x) 255 0) v
either p q v e f = zip2_of_maps bit_or (λ x. cond (p x) 255 0) (λ x. cond (q x) 255 0) v e f ∙ (λ i. map (λ x. either_lane (p x) (q x) i) v)

top_lane : (b : Bool) → top 7 (cond b 255 0) ≡ b
top_lane true = refl
top_lane false = refl

-- for each of eight bytes, whether the test holds of it and y
abbrev lanes : (ℕ → ℕ → Bool) → List ℕ → ℕ → List ℕ
lanes test bytes y = zip2 (λ a b. cond (test a b) 255 0) bytes (replicate 8 y)

-- the bits of those that do not stand for themselves
pub special_lanes : (bytes : List ℕ) → length bytes ≡ 8
    → mask_l (map (top 7) (zip2 bit_or (zip2 bit_or (lanes eqb bytes 34) (lanes eqb bytes 92)) (lanes ltb bytes 32))) % 2 ^ 64 ≡ mask_l (map is_special bytes)
special_lanes bytes eight =
    let marked : zip2 bit_or (zip2 bit_or (lanes eqb bytes 34) (lanes eqb bytes 92)) (lanes ltb bytes 32) ≡ map (λ x. cond (is_special x) 255 0) bytes =
    either (λ x. (x == 34) || (x == 92)) (λ x. ltb x 32) bytes
    (either (λ x. x == 34) (λ x. x == 92) bytes (zip2_splat _ bytes 8 34 eight) (zip2_splat _ bytes 8 92 eight)) (zip2_splat _ bytes 8 32 eight) in
    ap (λ l. mask_l l % 2 ^ 64) (ap (map (top 7)) marked ∙ map-map (top 7) (λ x. cond (is_special x) 255 0) bytes ∙ (λ i. map (λ x. top_lane (is_special x) i) bytes))
    ∙ mask_l-mod (map is_special bytes) 64 (omega (arith, length-map bytes is_special))

none_special : (b : Bool) (n l m : ℕ) → n ≤ l → cond (not b) (1 + n) 0 ≡ 1 + l → (n ≡ l → m ≡ 0) → cond b 1 0 + 2 * m ≡ 0
none_special true n l m within all rest = absurd (omega arith)
none_special false n l m within all rest = let none = rest (omega arith) in omega arith

no_bits : (bytes : List ℕ) → prefix_len is_verbatim bytes ≡ length bytes → mask_l (map is_special bytes) ≡ 0
no_bits [] all = refl
no_bits (byte ∷ bytes) all = none_special (is_special byte) _ (length bytes) _ (prefix_len-le-length is_verbatim bytes) (omega arith) (no_bits bytes)

split : (bytes : List ℕ) (i : ℕ) → prefix_len is_verbatim (drop i bytes)
    ≡ cond (eqb (prefix_len is_verbatim (chunk i 8 bytes)) (length (chunk i 8 bytes))) (length (chunk i 8 bytes) + prefix_len is_verbatim (drop (i + 8) bytes)) (prefix_len is_verbatim (chunk i 8 bytes))
split bytes i = ap (prefix_len is_verbatim) (chunk-drop i 8 bytes) ∙ prefix_len-append is_verbatim (chunk i 8 bytes) (drop (i + 8) bytes)

-- where none of them is special, the count goes on behind them
pub run_through : (bytes : List ℕ) (i : ℕ) → i + 8 ≤ length bytes → mask_l (map is_special (chunk i 8 bytes)) ≡ 0 → prefix_len is_verbatim (drop i bytes) ≡ 8 + prefix_len is_verbatim (drop (i + 8) bytes)
run_through bytes i room none =
    let here = chunk i 8 bytes in
    split bytes i ∙ ap (λ b. cond b (length here + prefix_len is_verbatim (drop (i + 8) bytes)) (prefix_len is_verbatim here)) (eq-eqb _ _ (leading_from_mask_l is_special here none))
    ∙ ap (λ n. n + prefix_len is_verbatim (drop (i + 8) bytes)) (length-chunk i 8 bytes room)

-- else it ends at the first that is
pub run_stops : (bytes : List ℕ) (i : ℕ) → i + 8 ≤ length bytes → 0 < mask_l (map is_special (chunk i 8 bytes)) → prefix_len is_verbatim (drop i bytes) ≡ count_trailing_zeros 64 (mask_l (map is_special (chunk i 8 bytes)))
run_stops bytes i room some =
    let here = chunk i 8 bytes in
    split bytes i ∙ ap (λ b. cond b (length here + prefix_len is_verbatim (drop (i + 8) bytes)) (prefix_len is_verbatim here)) (ne_eqb _ _ (λ (e : prefix_len is_verbatim here ≡ length here). omega (arith, no_bits here e)))
    ∙ sym (trailing_mask_l is_special 64 here (omega (arith, length-chunk i 8 bytes room)) some)
