-- No JSON that is written holds U+001E.
use Rattle.std.proofs.Common.{◌≡◌, refl, sym, ◌∙◌, subst, ◌≢◌, ℕ, zero, suc, ◌+◌, ◌/◌, ◌%◌, ◌<◌, Bool, true, false, ◌&&◌, ◌||◌, ◌==◌, cond, List, [], ◌∷◌, ◌++◌, drop, Option, Some, None, option_and_then, inl, inr, ◌⊎◌, decimal, map, arith}
use Rattle.std.specs.Prelude.{if◌then◌else◌}
use Rattle.std.specs.List.{prefix_len, AllByRecursion}
use Rattle.std.specs.Char.{is_ascii_digit}
use Rattle.std.specs.Fmt.{digits, digits_onto, digit_glyph}
use Rattle.std.proofs.lemmas.Bool.{eqb-true, leb-true, and_parts, or_cases, cases_lt, cases_eq}
use Rattle.std.proofs.lemmas.Bool.Decides.{nat_tests}
use Rattle.std.proofs.lemmas.List.Elements.{All-nil, All-cons}
use Rattle.json.specs.Token.{Token, begin_object, end_object, begin_array, end_array, key, string, number, boolean, null, bad}
use Rattle.json.specs.Word.{head, after_digits, after_minus, after_sign, after_whole, after_fraction, after_exponent, after_number}
use Rattle.json.specs.Print.{escape_byte, escape, quoted, token_text, begins, ends, separator, print_from, print, IsNumber, IsPrintable, ArePrintable}
use Rattle.json.proofs.Printed.Strings.{escape_byte_plain}
use Rattle.eio_wire.specs.Payload.{IsWhole}
use Rattle.events.proofs.WholeLemmas.{holds_none, both, whole}

nil : IsWhole []
nil = All-nil (λ b. b ≢ 30)

after : (b : ℕ) (bs : List ℕ) → b ≢ 30 → IsWhole bs → IsWhole (b ∷ bs)
after b bs other rest = All-cons (λ b. b ≢ 30) b bs other rest

-- ---- texts

-- the escapes of the bytes below n hold none
abbrev escapes_below : ℕ → Bool
escapes_below zero = true
escapes_below (suc n) = holds_none (escape_byte n) && escapes_below n

escape_below : (n : ℕ) → escapes_below n ≡ true → (x : ℕ) → x < n → holds_none (escape_byte x) ≡ true
escape_below zero all x h = absurd (omega arith)
escape_below (suc n) all x h =
    let p = and_parts _ _ all in
    elim (cases_eq x n) [ inl same ↦ rw same p.0 | inr other ↦ escape_below n p.1 x (omega arith) ]

all_escapes : escapes_below 93 ≡ true
unfolding escape_byte holds_none
all_escapes = refl

whole-escape_byte : (x : ℕ) → IsWhole (escape_byte x)
whole-escape_byte x = elim (cases_lt x 93) [
  | inl small ↦ whole (escape_byte x) (escape_below 93 all_escapes x small)
  | inr large ↦ rw (escape_byte_plain x (λ e. omega arith) (λ e. omega arith) (omega arith)) (after x [] (λ e. omega arith) nil)
]

whole-escape : (s : List ℕ) → IsWhole (escape s)
whole-escape [] = nil
whole-escape (x ∷ xs) = both (escape_byte x) (escape xs) (whole-escape_byte x) (whole-escape xs)

whole-quoted : (s : List ℕ) → IsWhole (quoted s)
whole-quoted s = after 34 _ (λ e. cc e) (both (escape s) (34 ∷ []) (whole-escape s) (after 34 [] (λ e. cc e) nil))

-- ---- numbers

whole-one : (c : ℕ) (t : List ℕ) → c ≢ 30 → (head t == c) ≡ true → IsWhole (drop 1 t) → IsWhole t
whole-one c [] other is rest = nil
whole-one c (x ∷ xs) other is rest = after x xs (λ e. other (sym (eqb-true x c is) ∙ e)) rest

whole-either : (a b : ℕ) (t : List ℕ) → a ≢ 30 → b ≢ 30 → ((head t == a) ≡ true) ⊎ ((head t == b) ≡ true) → IsWhole (drop 1 t) → IsWhole t
whole-either a b t p q (inl e) rest = whole-one a t p e rest
whole-either a b t p q (inr e) rest = whole-one b t q e rest

digit_is_other : (x : ℕ) → is_ascii_digit x ≡ true → x ≢ 30
digit_is_other x is = λ e. omega (arith, leb-true 48 x (and_parts _ _ is).0, e)

whole-digits_at : (d : Bool) (x : ℕ) (xs : List ℕ) (n : ℕ) → (d ≡ true → x ≢ 30) → (IsWhole (drop n xs) → IsWhole xs) → IsWhole (drop (cond d (1 + n) 0) (x ∷ xs)) → IsWhole (x ∷ xs)
whole-digits_at false x xs n other more rest = rest
whole-digits_at true x xs n other more rest =
    let e : 1 + n ≡ suc n = omega arith in
    after x xs (other refl) (more (subst (λ k. IsWhole (drop k (x ∷ xs))) e rest))

whole-digits : (t : List ℕ) → IsWhole (drop (prefix_len is_ascii_digit t) t) → IsWhole t
whole-digits [] rest = nil
whole-digits (x ∷ xs) rest = whole-digits_at (is_ascii_digit x) x xs (prefix_len is_ascii_digit xs) (digit_is_other x) (whole-digits xs) rest

-- what follows a part holds none, where there is such a part
abbrev Then : Option (List ℕ) → Type 0
Then None = ⊥
Then (Some rest) = IsWhole rest

by_test : (b : Bool) (x y : Option (List ℕ)) (P : Type 0) → (b ≡ true → Then x → P) → (Then y → P) → Then (cond b x y) → P
by_test true x y P f g h = f refl h
by_test false x y P f g h = g h

skipped : (b : Bool) (t : List ℕ) → (b ≡ true → IsWhole (drop 1 t) → IsWhole t) → IsWhole (cond b (drop 1 t) t) → IsWhole t
skipped true t f h = f refl h
skipped false t f h = h

whole-after_digits : (t : List ℕ) → Then (after_digits t) → IsWhole t
whole-after_digits t = by_test (prefix_len is_ascii_digit t == 0) None _ _ (λ e h. absurd h) (whole-digits t)

whole-after_exponent : (t : List ℕ) → Then (after_exponent t) → IsWhole t
whole-after_exponent t =
    let u = drop 1 t in
    by_test ((head t == 101) || (head t == 69)) _ (Some t) _
    (λ e h. whole-either 101 69 t (λ e. cc e) (λ e. cc e) (or_cases _ _ e) (skipped _ u (λ s. whole-either 45 43 u (λ e. cc e) (λ e. cc e) (or_cases _ _ s)) (whole-after_digits (after_sign u) h))) (λ h. h)

whole-after_fraction : (t : List ℕ) → Then (after_fraction t) → IsWhole t
whole-after_fraction t = by_test (head t == 46) _ (Some t) _ (λ e h. whole-one 46 t (λ e. cc e) e (whole-after_digits (drop 1 t) h)) (λ h. h)

whole-after_whole : (t : List ℕ) → Then (after_whole t) → IsWhole t
whole-after_whole t = by_test (head t == 48) (Some (drop 1 t)) _ _ (λ e h. whole-one 48 t (λ e. cc e) e h) (whole-after_digits t)

back : (f : List ℕ → Option (List ℕ)) → ((t : List ℕ) → Then (f t) → IsWhole t) → (o : Option (List ℕ)) → Then (option_and_then f o) → Then o
back f p None h = h
back f p (Some t) h = p t h

whole-after_number : (t : List ℕ) → Then (after_number t) → IsWhole t
unfolding after_number
whole-after_number t h =
    skipped (head t == 45) t (whole-one 45 t (λ e. cc e))
    (whole-after_whole (after_minus t) (back after_fraction whole-after_fraction _ (back after_exponent whole-after_exponent _ h)))

whole-number : (s : List ℕ) → IsNumber s → IsWhole s
whole-number s is = whole-after_number s (subst Then (sym is) nil)

glyph_is_other : (d : ℕ) → digit_glyph false d ≢ 30
glyph_is_other d = λ e. grind (arith, nat_tests, e)

whole-chosen : (b : Bool) (xs ys : List ℕ) → IsWhole xs → IsWhole ys → IsWhole (if b then xs else ys)
whole-chosen true xs ys x y = x
whole-chosen false xs ys x y = y

whole-digits_onto : (k n : ℕ) (acc : List ℕ) → IsWhole acc → IsWhole (digits_onto k 10 false n acc)
whole-digits_onto zero n acc rest = rest
whole-digits_onto (suc k) n acc rest =
    let last = after (digit_glyph false (n % 10)) acc (glyph_is_other (n % 10)) rest in
    whole-chosen (n / 10 == 0) _ _ last (whole-digits_onto k (n / 10) (digit_glyph false (n % 10) ∷ acc) last)

pub whole-decimal : (n : ℕ) → IsWhole (decimal n)
unfolding digits
whole-decimal n = whole-digits_onto 64 n [] nil

-- ---- tokens

pub all_append : {A : Type 0} (P : A → Type 0) (xs ys : List A) → AllByRecursion P xs → AllByRecursion P ys → AllByRecursion P (xs ++ ys)
all_append P [] ys front back = back
all_append P (x ∷ xs) ys front back = (front.0, all_append P xs ys front.1 back)

-- the text of each holds none
abbrev pub AreWhole : List Token → Type 0
AreWhole ts = AllByRecursion (λ t. IsWhole (token_text t)) ts

pub whole-token_text : (t : Token) → IsPrintable t → IsWhole (token_text t)
unfolding holds_none
whole-token_text begin_object is = whole (123 ∷ []) refl
whole-token_text end_object is = whole (125 ∷ []) refl
whole-token_text begin_array is = whole (91 ∷ []) refl
whole-token_text end_array is = whole (93 ∷ []) refl
whole-token_text (key s) is = both (quoted s) (58 ∷ []) (whole-quoted s) (whole (58 ∷ []) refl)
whole-token_text (string s) is = whole-quoted s
whole-token_text (number s) is = whole-number s is
whole-token_text (boolean true) is = whole (116 ∷ 114 ∷ 117 ∷ 101 ∷ []) refl
whole-token_text (boolean false) is = whole (102 ∷ 97 ∷ 108 ∷ 115 ∷ 101 ∷ []) refl
whole-token_text null is = whole (110 ∷ 117 ∷ 108 ∷ 108 ∷ []) refl
whole-token_text bad is = absurd is

pub AreWhole-printable : (ts : List Token) → ArePrintable ts → AreWhole ts
unfolding ArePrintable
AreWhole-printable [] are = tt
AreWhole-printable (t ∷ ts) are = (whole-token_text t are.0, AreWhole-printable ts are.1)

whole-comma : (b : Bool) → IsWhole (cond b (44 ∷ []) [])
unfolding holds_none
whole-comma true = whole (44 ∷ []) refl
whole-comma false = nil

whole-separator : (b : Bool) (t : Token) → IsWhole (separator b t)
whole-separator b t = whole-comma (b && begins t)

whole-print_from : (b : Bool) (ts : List Token) → AreWhole ts → IsWhole (print_from b ts)
unfolding print_from
whole-print_from b [] are = nil
whole-print_from b (t ∷ ts) are =
    both (separator b t) (token_text t ++ print_from (ends t) ts) (whole-separator b t)
    (both (token_text t) (print_from (ends t) ts) are.0 (whole-print_from (ends t) ts are.1))

pub whole-print : (ts : List Token) → AreWhole ts → IsWhole (print ts)
whole-print ts are = whole-print_from false ts are

pub AreWhole-strings : (ss : List (List ℕ)) → AreWhole (map string ss)
AreWhole-strings [] = tt
AreWhole-strings (s ∷ ss) = (whole-quoted s, AreWhole-strings ss)
