-- What stands round the dots of a token.
use Rattle.std.proofs.Common.{◌≡◌, refl, sym, ap, ap₂, ◌∙◌, ℕ, zero, suc, ◌+◌, ◌<◌, ◌≤◌, Bool, true, false, not, cond, ◌||◌, List, [], ◌∷◌, ◌++◌, take, drop, length, get_or, arith, length-append, append_assoc}
use Rattle.std.specs.Prelude.{if◌then◌else◌, Result, Ok, Err}
use Rattle.std.specs.List.{list_any, position_or_len, before_first, after_first}
use Rattle.std.proofs.lemmas.Bool.{eqb-true}
use Rattle.std.proofs.lemmas.List.{take_at}
use Rattle.std.proofs.lemmas.List.Sums.{split_at_first, passes_at_first}
use Rattle.tokens.specs.declared.verifier.Flaw.{Flaw}
use Rattle.tokens.specs.declared.verifier.Flaw.TheVariants.{Form}
use Rattle.std.specs.Str.{IsUtf8, is_utf8}
use Rattle.std.proofs.lemmas.Str.{is_utf8-from_IsUtf8, IsUtf8-from_is_utf8}
use Rattle.tokens.specs.Steps.{◌>>=◌}
use Rattle.tokens.specs.Form.{Parts, is_dot, cut, three, parts_of, bytes_in, as_text, text_in, opened}

lacks : (b : Bool) (n m : ℕ) (rest : Bool) → cond (not b) (1 + n) 0 ≡ suc m → (n ≡ m → rest ≡ false) → (b || rest) ≡ false
lacks true n m rest e more = absurd (omega (arith, e))
lacks false n m rest e more = more (omega (arith, e))

has : (b : Bool) (n m : ℕ) (rest : Bool) → cond (not b) (1 + n) 0 < suc m → (n < m → rest ≡ true) → (b || rest) ≡ true
has true n m rest e more = refl
has false n m rest e more = more (omega (arith, e))

no_dot : (text : List ℕ) → position_or_len is_dot text ≡ length text → list_any is_dot text ≡ false
no_dot [] none = refl
no_dot (x ∷ xs) none = lacks (is_dot x) (position_or_len is_dot xs) (length xs) (list_any is_dot xs) none (no_dot xs)

one_dot : (text : List ℕ) → position_or_len is_dot text < length text → list_any is_dot text ≡ true
one_dot [] some = absurd (omega (arith, some))
one_dot (x ∷ xs) some = has (is_dot x) (position_or_len is_dot xs) (length xs) (list_any is_dot xs) some (one_dot xs)

-- there is nothing to cut at
pub not_cut : (text : List ℕ) → position_or_len is_dot text ≡ length text → cut text ≡ Err Form
not_cut text none = ap (λ (b : Bool). if b then Ok (before_first is_dot text, after_first is_dot text) else Err Form) (no_dot text none)

-- it is cut in two
pub cut_in_two : (text front back : List ℕ) → front ≡ before_first is_dot text → back ≡ after_first is_dot text → position_or_len is_dot text < length text → cut text ≡ Ok (front, back)
cut_in_two text front back before after some =
    ap (λ (b : Bool). if b then Ok (before_first is_dot text, after_first is_dot text) else Err Form) (one_dot text some)
    ∙ ap₂ (λ f b. Ok (f, b)) (sym before) (sym after)

-- the text is what stands round its first dot
pub round_dot : (text front back : List ℕ) → front ≡ before_first is_dot text → back ≡ after_first is_dot text → position_or_len is_dot text < length text → text ≡ front ++ 46 ∷ back
round_dot text front back before after some =
    split_at_first is_dot text 0 some
    ∙ ap₂ (λ f b. f ++ b) (sym before) (ap₂ (λ x l. x ∷ l) (eqb-true _ 46 (passes_at_first is_dot text 0 some)) (sym after))

joined : (token header rest claims signature : List ℕ) → token ≡ header ++ 46 ∷ rest → rest ≡ claims ++ 46 ∷ signature → token ≡ (header ++ 46 ∷ claims) ++ 46 ∷ signature
joined token header rest claims signature first second =
    first ∙ ap (λ r. header ++ 46 ∷ r) second ∙ sym (append_assoc header (46 ∷ claims) (46 ∷ signature))

signed_length : (header claims : List ℕ) → length (header ++ 46 ∷ claims) ≡ length header + 1 + length claims
signed_length header claims = omega (arith, length-append header (46 ∷ claims))

-- what is signed stands before the second dot
pub signed_front : (token header rest claims signature : List ℕ) → token ≡ header ++ 46 ∷ rest → rest ≡ claims ++ 46 ∷ signature → take (length header + 1 + length claims) token ≡ header ++ 46 ∷ claims
signed_front token header rest claims signature first second =
    ap (λ t. take (length header + 1 + length claims) t) (joined token header rest claims signature first second)
    ∙ take_at (header ++ 46 ∷ claims) (46 ∷ signature) (length header + 1 + length claims) (signed_length header claims)

-- it isn't longer than the token
pub signed_fits : (token header rest claims signature : List ℕ) → token ≡ header ++ 46 ∷ rest → rest ≡ claims ++ 46 ∷ signature → length header + 1 + length claims ≤ length token
signed_fits token header rest claims signature first second =
    omega (arith, ap length (joined token header rest claims signature first second), length-append (header ++ 46 ∷ claims) (46 ∷ signature), signed_length header claims)

-- both cuts make three parts
pub parts_made : (token header rest claims signature signed : List ℕ) → cut token ≡ Ok (header, rest) → cut rest ≡ Ok (claims, signature) → signed ≡ header ++ 46 ∷ claims
    → Ok (record { header = header; claims = claims; signature = signature; signed = signed }) ≡ parts_of token
unfolding parts_of
parts_made token header rest claims signature signed first second is =
    ap (λ s. Ok (record { header = header; claims = claims; signature = signature; signed = s })) is
    ∙ sym (ap (λ c. c >>= (λ pair. Ok (three header pair.0 pair.1))) second)
    ∙ sym (ap (λ c. c >>= (λ pair. cut pair.1 >>= (λ other. Ok (three pair.0 other.0 other.1)))) first)

-- what the parts say makes what the token says
pub opened_made : (token first second third signed header claims signature : List ℕ) → Ok (record { header = first; claims = second; signature = third; signed = signed }) ≡ parts_of token
    → Ok header ≡ text_in first → Ok claims ≡ text_in second → Ok signature ≡ bytes_in third
    → Ok (record { header = header; claims = claims; signature = signature; signed = signed }) ≡ opened token
unfolding opened
opened_made token first second third signed header claims signature parts is_header is_claims is_signature =
    ap (λ r. r >>= (λ s. Ok (record { header = header; claims = claims; signature = s; signed = signed }))) is_signature
    ∙ ap (λ r. r >>= (λ c. bytes_in third >>= (λ s. Ok (record { header = header; claims = c; signature = s; signed = signed })))) is_claims
    ∙ ap (λ r. r >>= (λ h. text_in second >>= (λ c. bytes_in third >>= (λ s. Ok (record { header = h; claims = c; signature = s; signed = signed }))))) is_header
    ∙ ap (λ r. r >>= (λ (p : Parts). text_in p.header >>= (λ h. text_in p.claims >>= (λ c. bytes_in p.signature >>= (λ s. Ok (record { header = h; claims = c; signature = s; signed = p.signed })))))) parts

as_text_by : (bytes : List ℕ) (b : Bool) → is_utf8 bytes ≡ b → as_text bytes ≡ (if b then Ok bytes else Err Form)
as_text_by bytes b is = ap (λ (b : Bool). if b then Ok bytes else Err Form) is

not_utf8 : (bytes : List ℕ) (b : Bool) → is_utf8 bytes ≡ b → ¬ IsUtf8 bytes → b ≡ false
not_utf8 bytes true is none = absurd (none (IsUtf8-from_is_utf8 bytes is))
not_utf8 bytes false is none = refl

-- what is UTF-8 is a text
pub text_read : (part bytes : List ℕ) → bytes_in part ≡ Ok bytes → IsUtf8 bytes → Ok bytes ≡ text_in part
unfolding text_in
text_read part bytes read utf8 = sym (as_text_by bytes true (is_utf8-from_IsUtf8 bytes utf8)) ∙ ap (λ r. r >>= as_text) (sym read)

-- and nothing else
pub text_bad : (part bytes : List ℕ) → bytes_in part ≡ Ok bytes → ¬ IsUtf8 bytes → Err Form ≡ text_in part
unfolding text_in
text_bad part bytes read none = sym (as_text_by bytes false (not_utf8 bytes (is_utf8 bytes) refl none)) ∙ ap (λ r. r >>= as_text) (sym read)
