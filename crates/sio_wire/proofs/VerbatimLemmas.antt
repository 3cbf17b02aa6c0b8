-- What the tokens say of texts that are written as they are.
use Rattle.std.proofs.Common.{◌≡◌, ℕ, List, [], ◌∷◌, ◌++◌, ◌+◌, ◌<◌, All, IsTrue, Bool, true, false, cond, length, take, Some, ◌==◌, inl, inr, refl, ap, ◌∙◌, arith}
use Rattle.std.proofs.Math.Numerals.{one-add}
use Rattle.std.proofs.lemmas.Bool.Decides.{nat_tests}
use Rattle.std.proofs.lemmas.Bool.{cases_lt}
use Rattle.std.proofs.lemmas.Grind.{common_steps}
use Rattle.std.proofs.lemmas.List.Elements.{All-nil, All-cons, All-head, All-tail}
use Rattle.std.proofs.lemmas.List.Sums.{prefix_len_stops, prefix_len-le-length}
use Rattle.std.proofs.lemmas.Str.{IsCharBoundary-before_ascii, IsCharBoundary-end}
use Rattle.std.specs.List.{prefix_len}
use Rattle.std.specs.Str.{IsCharBoundary}
use Rattle.json.specs.Token.{string, begin_array}
use Rattle.json.specs.Text.{content, plain}
use Rattle.json.specs.Word.{is_operator, is_space}
use Rattle.json.specs.Lex.{Lexeme, token, Mode, between, in_string, operator, space, other, lex, lex_byte, Place, fresh, after_value, after_comma, after_key, may_begin, punctuate}
use Rattle.sio_wire.specs.Texts.{text_tokens, IsArrayOf, is_verbatim, BeginsVerbatim}

abbrev IsVerbatim : ℕ → Type 0
IsVerbatim byte = IsTrue (is_verbatim byte)

abbrev Verbatim : List ℕ → Type 0
Verbatim text = All IsVerbatim text

-- ---- where the bytes that stand for themselves end

verbatim_step : (byte : ℕ) (bytes : List ℕ) (b : Bool) → is_verbatim byte ≡ b → Verbatim (take (prefix_len is_verbatim bytes) bytes)
    → Verbatim (take (cond b (1 + prefix_len is_verbatim bytes) 0) (byte ∷ bytes))
verbatim_step byte bytes true h rest = rw one-add (All-cons IsVerbatim byte (take (prefix_len is_verbatim bytes) bytes) h rest)
verbatim_step byte bytes false h rest = All-nil IsVerbatim

-- what stands in front is verbatim
pub Verbatim-front : (bytes : List ℕ) → Verbatim (take (prefix_len is_verbatim bytes) bytes)
Verbatim-front [] = All-nil IsVerbatim
Verbatim-front (byte ∷ bytes) = verbatim_step byte bytes (is_verbatim byte) refl (Verbatim-front bytes)

stop_is_ascii : (byte : ℕ) → is_verbatim byte ≡ false → byte < 128
stop_is_ascii byte h = grind (arith, nat_tests, h)

-- a text may be cut behind it
pub IsCharBoundary-verbatim : (bytes : List ℕ) → IsCharBoundary bytes (prefix_len is_verbatim bytes)
IsCharBoundary-verbatim bytes = elim (cases_lt (prefix_len is_verbatim bytes) (length bytes)) [
  | inl within ↦ IsCharBoundary-before_ascii bytes _ within (stop_is_ascii _ (prefix_len_stops is_verbatim bytes 0 within))
  | inr over ↦ (let all : prefix_len is_verbatim bytes ≡ length bytes = omega (arith, prefix_len-le-length is_verbatim bytes) in
      rw all (IsCharBoundary-end bytes))
]

-- ---- from bytes to tokens

content_step : (byte : ℕ) (bytes text : List ℕ) → IsTrue (is_verbatim byte) → content plain bytes ≡ Some text → content plain (byte ∷ bytes) ≡ Some (byte ∷ text)
unfolding content
content_step byte bytes text here rest = grind (arith, nat_tests, common_steps, here, rest)

content-verbatim : (text behind : List ℕ) → Verbatim text → content plain (text ++ 34 ∷ behind) ≡ Some text
unfolding content
content-verbatim [] behind each = refl
content-verbatim (byte ∷ text) behind each = content_step byte (text ++ 34 ∷ behind) text (All-head IsVerbatim byte text each) (content-verbatim text behind (All-tail IsVerbatim byte text each))

stays_inside : (o s : Bool) (byte : ℕ) (bytes : List ℕ) (k : Mode → List Lexeme) → lex_byte in_string (cond o operator (cond s space other)) byte bytes k ≡ k in_string
stays_inside true s byte bytes k = refl
stays_inside false true byte bytes k = refl
stays_inside false false byte bytes k = refl

lex_step : (byte : ℕ) (bytes : List ℕ) → IsTrue (is_verbatim byte) → lex in_string (byte ∷ bytes) ≡ lex in_string bytes
unfolding lex
lex_step byte bytes here =
    let no_quote : (byte == 34) ≡ false = grind (arith, nat_tests, here) in
    let no_escape : (byte == 92) ≡ false = grind (arith, nat_tests, here) in
    rw (no_quote, no_escape) (stays_inside (is_operator byte) (is_space byte) byte bytes (λ m. lex m bytes))

lex-verbatim : (text behind : List ℕ) → Verbatim text → lex in_string (text ++ 34 ∷ behind) ≡ lex between behind
unfolding lex
lex-verbatim [] behind each = refl
lex-verbatim (byte ∷ text) behind each = lex_step byte (text ++ 34 ∷ behind) (All-head IsVerbatim byte text each) ∙ lex-verbatim text behind (All-tail IsVerbatim byte text each)

lex-begins : (rest text behind : List ℕ) → BeginsVerbatim rest text behind → lex between rest ≡ token (string text) ∷ lex between behind
unfolding lex
lex-begins rest text behind begins =
    rw begins.whole (rw (content-verbatim text behind begins.verbatim, lex-verbatim text behind begins.verbatim) refl)

-- where a value may come next, these texts and the end of their array are left
abbrev pub Leaves : List ℕ → List (List ℕ) → Type 0
Leaves rest texts = (place : Place) → IsTrue (may_begin place) → punctuate place (lex between rest) ≡ text_tokens texts

last_at : (place : Place) (text : List ℕ) → IsTrue (may_begin place) → punctuate place (token (string text) ∷ lex between (93 ∷ [])) ≡ text_tokens (text ∷ [])
unfolding lex punctuate
last_at fresh text may = refl
last_at after_value text may = absurd (cc)
last_at after_comma text may = refl
last_at after_key text may = absurd (cc)

pub Leaves-last : (rest text : List ℕ) → BeginsVerbatim rest text (93 ∷ []) → Leaves rest (text ∷ [])
Leaves-last rest text begins place may = ap (punctuate place) (lex-begins rest text (93 ∷ []) begins) ∙ last_at place text may

more_at : (place : Place) (text behind : List ℕ) → IsTrue (may_begin place)
    → punctuate place (token (string text) ∷ lex between (44 ∷ behind)) ≡ string text ∷ punctuate after_comma (lex between behind)
unfolding lex punctuate
more_at fresh text behind may = refl
more_at after_value text behind may = absurd (cc)
more_at after_comma text behind may = refl
more_at after_key text behind may = absurd (cc)

pub Leaves-more : (rest text behind : List ℕ) (texts : List (List ℕ)) → BeginsVerbatim rest text (44 ∷ behind) → Leaves behind texts → Leaves rest (text ∷ texts)
Leaves-more rest text behind texts begins leaves place may =
    ap (punctuate place) (lex-begins rest text (44 ∷ behind) begins) ∙ more_at place text behind may
    ∙ ap (λ more. string text ∷ more) (leaves after_comma refl)

-- behind its bracket, the array is what is left
pub IsArrayOf-leaves : (rest : List ℕ) (texts : List (List ℕ)) → Leaves rest texts → IsArrayOf texts (91 ∷ rest)
unfolding lex punctuate
IsArrayOf-leaves rest texts leaves = ap (λ more. begin_array ∷ more) (leaves fresh refl)
