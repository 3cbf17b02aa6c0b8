-- A block that is filled from the front.
use Rattle.std.proofs.Common.{◌≡◌, refl, sym, ap, ap₂, ◌∙◌, ℕ, zero, suc, ◌+◌, ◌-◌, ◌<◌, ◌≤◌, List, [], ◌∷◌, ◌++◌, map, take, length, set, get_or, replicate, arith, append_assoc, add-one}
use Rattle.std.specs.Prelude.{bit_xor}
use Rattle.std.specs.Int.Bits.{xor_zero_l}
use Rattle.std.proofs.lemmas.List.{map_more, take_all, length-take, length-map, map-append}
use Rattle.tokens.specs.Hmac.{filled, padded}

-- the byte behind the front is put in its place
set_behind : (front : List ℕ) (n x y : ℕ) → set (front ++ replicate (suc n) y) (length front) x ≡ (front ++ x ∷ []) ++ replicate n y
set_behind [] n x y = refl
set_behind (f ∷ front) n x y = ap (λ l. f ∷ l) (set_behind front n x y)

set_at : (front : List ℕ) (i n m x y : ℕ) → length front ≡ i → m ≡ suc n → set (front ++ replicate m y) i x ≡ (front ++ x ∷ []) ++ replicate n y
set_at front i n m x y long more = ap₂ (λ k j. set (front ++ replicate j y) k x) (sym long) more ∙ set_behind front n x y

-- of the key, the first bytes are changed
abbrev pub begun : (key : List ℕ) → (pad i : ℕ) → List ℕ
begun key pad i = map (λ byte. bit_xor byte pad) (take i key) ++ replicate (64 - i) pad

pub begun_more : (key : List ℕ) (pad i : ℕ) → length key ≤ 64 → i < length key → set (begun key pad i) i (bit_xor (get_or key i 0) pad) ≡ begun key pad (i + 1)
begun_more key pad i short within =
    let front = map (λ byte. bit_xor byte pad) (take i key) in
    let long : length front ≡ i = length-map (take i key) (λ byte. bit_xor byte pad) ∙ omega (arith, length-take i key) in
    set_at front i (64 - (i + 1)) (64 - i) (bit_xor (get_or key i 0) pad) pad long (omega arith)
    ∙ ap (λ l. l ++ replicate (64 - (i + 1)) pad) (sym (map_more (λ byte. bit_xor byte pad) key i 0 within))

map-zeros : (n pad : ℕ) → map (λ byte. bit_xor byte pad) (replicate n 0) ≡ replicate n pad
map-zeros zero pad = refl
map-zeros (suc n) pad = ap₂ (λ b l. b ∷ l) (xor_zero_l pad) (map-zeros n pad)

pub begun_all : (key : List ℕ) (pad i : ℕ) → i ≡ length key → begun key pad i ≡ padded (filled key) pad
begun_all key pad i all =
    ap (λ k. begun key pad k) all
    ∙ ap₂ (λ front back. map (λ byte. bit_xor byte pad) front ++ back) (take_all (length key) key (omega arith)) (sym (map-zeros (64 - length key) pad))
    ∙ sym (map-append (λ byte. bit_xor byte pad) key (replicate (64 - length key) 0))
