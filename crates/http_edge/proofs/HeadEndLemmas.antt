-- A head ends with an empty line.
use Rattle.std.proofs.Common.{◌≡◌, ℕ, Bool, true, false, List, [], ◌∷◌, ◌++◌, refl, sym, ◌∙◌, append_assoc, arith}
use Rattle.std.specs.Prelude.{◌||◌}
use Rattle.std.specs.List.{list_any, flat_map}
use Rattle.std.proofs.lemmas.Bool.Decides.{nat_tests}
use Rattle.std.proofs.lemmas.List.Folds.{list_any-append}
use Rattle.std.proofs.lemmas.List.Elements.{All-head}
use Rattle.httparse.specs.Grammar.{LineEnd, crlf, lf, print_end, Field, print_field, print_blank, print_version, is_token_byte, IsToken, RequestHead, ReadsRequest}
use Rattle.httparse.proofs.GrammarLemmas.{print_request-append, cons-append}
use Rattle.http_edge.specs.Reading.{is_text, HasEmptyLine}

abbrev EndsLine : List ℕ → Type 0
EndsLine bytes = (lines : List ℕ) × (bytes ≡ lines ++ 10 ∷ [])

field_lines : (e : LineEnd) (f : Field) (t more : List ℕ) → print_end f.end ++ more ≡ t ++ 10 ∷ []
    → print_end e ++ (print_field f ++ more) ≡ (print_end e ++ (f.name ++ 58 ∷ (f.raw ++ t))) ++ 10 ∷ []
field_lines e f t more is = regroup (print_end e) f.name f.raw (print_end f.end) more ∙ rw is (sym (gather (print_end e) f.name f.raw t))
  where
    regroup : (a n r p m : List ℕ) → a ++ ((n ++ 58 ∷ r ++ p) ++ m) ≡ a ++ (n ++ 58 ∷ (r ++ (p ++ m)))
    regroup a n r p m = simp (append_assoc, cons-append)

    gather : (a n r t : List ℕ) → (a ++ (n ++ 58 ∷ (r ++ t))) ++ 10 ∷ [] ≡ a ++ (n ++ 58 ∷ (r ++ (t ++ 10 ∷ [])))
    gather a n r t = simp append_assoc refl

-- a line end and the field lines behind it end with a line feed
ends_line : (e : LineEnd) (fs : List Field) → EndsLine (print_end e ++ flat_map print_field fs)
ends_line crlf [] = (13 ∷ [], refl)
ends_line lf [] = ([], refl)
ends_line e (f ∷ fs) =
    let later = ends_line f.end fs in
    (print_end e ++ (f.name ++ 58 ∷ (f.raw ++ later.0)), field_lines e f later.0 (flat_map print_field fs) later.1)

token_is_text : (b : ℕ) → is_token_byte b ≡ true → is_text b ≡ true
unfolding is_token_byte
token_is_text b token = grind (arith, nat_tests)

token_has_text : (bytes : List ℕ) → IsToken bytes → list_any is_text bytes ≡ true
token_has_text [] token = absurd (omega (arith, token.0))
token_has_text (b ∷ bytes) token =
    let first : is_text b ≡ true = token_is_text b (All-head (λ x. is_token_byte x ≡ true) b bytes token.1) in
    rw first refl

or_true : (t : Bool) → (t || true) ≡ true
or_true true = refl
or_true false = refl

has_text : (a m more : List ℕ) → list_any is_text m ≡ true → list_any is_text (a ++ (m ++ more)) ≡ true
has_text a m more any = rw (list_any-append is_text a (m ++ more), list_any-append is_text m more, any) (or_true (list_any is_text a))

lines_of : (a m t v e f l r lines : List ℕ) → e ++ f ≡ lines ++ 10 ∷ []
    → a ++ (m ++ 32 ∷ (t ++ 32 ∷ (v ++ (e ++ ((f ++ l) ++ r))))) ≡ (a ++ (m ++ 32 ∷ (t ++ 32 ∷ (v ++ lines)))) ++ ((10 ∷ l) ++ r)
lines_of a m t v e f l r lines is = regroup a m t v e f l r ∙ rw is (gather a m t v lines l r)
  where
    regroup : (a m t v e f l r : List ℕ) → a ++ (m ++ 32 ∷ (t ++ 32 ∷ (v ++ (e ++ ((f ++ l) ++ r))))) ≡ a ++ (m ++ 32 ∷ (t ++ 32 ∷ (v ++ ((e ++ f) ++ (l ++ r)))))
    regroup a m t v e f l r = simp append_assoc refl

    gather : (a m t v lines l r : List ℕ) → a ++ (m ++ 32 ∷ (t ++ 32 ∷ (v ++ ((lines ++ 10 ∷ []) ++ (l ++ r))))) ≡ (a ++ (m ++ 32 ∷ (t ++ 32 ∷ (v ++ lines)))) ++ ((10 ∷ l) ++ r)
    gather a m t v lines l r = simp (append_assoc, cons-append)

pub head_ends : (bytes rest : List ℕ) (h : RequestHead) → ReadsRequest bytes h rest → HasEmptyLine bytes
head_ends bytes rest h reads =
    let end = ends_line h.line_end h.fields in (
      print_blank h.blank ++ (h.method ++ 32 ∷ (h.target ++ 32 ∷ (print_version h.minor ++ end.0))),
      h.last,
      rest,
      reads.1 ∙ print_request-append h rest
          ∙ lines_of (print_blank h.blank) h.method h.target (print_version h.minor) (print_end h.line_end) (flat_map print_field h.fields) (print_end h.last) rest end.0 end.1,
      has_text (print_blank h.blank) h.method _ (token_has_text h.method reads.0.method),
    )
