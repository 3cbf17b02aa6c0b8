-- What a JSON payload cannot begin with, and that a text has one tree.
use Rattle.std.proofs.Common.{◌≡◌, ◌≢◌, ℕ, List, [], ◌∷◌, Option, Some, None, refl, subst, arith}
use Rattle.std.specs.Prelude.{slice_index}
use Rattle.json.specs.Token.{bad}
use Rattle.json.specs.Lex.{lex, tokens, punctuate}
use Rattle.json.specs.Word.{word, after_number}
use Rattle.json.specs.Json as json
use Rattle.serde_json.specs.Data.{Data}
use Rattle.serde_json.specs.Read.{read}
use Rattle.sio_wire.specs.Shape.{IsTree}

word_slash : (r : List ℕ) → word (47 ∷ r) ≡ bad
unfolding word after_number
word_slash r = refl

tokens_slash : (r : List ℕ) → tokens (47 ∷ r) ≡ bad ∷ []
unfolding lex punctuate
tokens_slash r = rw (word_slash r) refl

value_bad : json.value 127 (bad ∷ []) ≡ None
unfolding json.value
value_bad = refl

-- no JSON text begins with `/`
pub read_slash : (r : List ℕ) → read (47 ∷ r) ≡ None
read_slash r = rw (tokens_slash r, value_bad) refl

-- a payload has one tree
pub IsTree-once : (t : List ℕ) (a b : Option Data) → IsTree t a → IsTree t b → a ≡ b
IsTree-once t None None x y = refl
IsTree-once t None (Some b) x y = absurd (y.1 x)
IsTree-once t (Some a) None x y = absurd (x.1 y)
IsTree-once t (Some a) (Some b) x y = cc (x.2, y.2)

-- a payload does not begin with `/`
pub payload_no_slash : (t : List ℕ) (tree : Option Data) → IsTree t tree → slice_index t 0 ≢ 47
payload_no_slash [] tree x = λ h. omega (arith, h)
payload_no_slash (c ∷ cs) None x = absurd cc
payload_no_slash (c ∷ cs) (Some v) x = λ h.
    let same : read (47 ∷ cs) ≡ Some v = subst (λ (y : ℕ). read (y ∷ cs) ≡ Some v) h x.2 in cc (same, read_slash cs)
