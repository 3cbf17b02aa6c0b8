-- The tree that an array of texts alone is, and what reading its tokens one by one says.
use Rattle.std.proofs.Common.{◌≡◌, ◌≢◌, ◌↔◌, ℕ, ◌-◌, ◌≤◌, List, Option, Contains, [], ◌∷◌, length, map, Some, None, Ok, option_and_then, option_map, refl, sym, ◌∙◌, ap, arith, true≢false}
use Rattle.json.specs.Token as token
use Rattle.json.specs.Lex.{lex, punctuate}
use Rattle.json.specs.Json as json
use Rattle.json.specs.Json.{after_end_array, parse_map, items, value, if_last}
use Rattle.json.proofs.Grammar.{value-begin_array, value_is, items_end, items_more, closed_array}
use Rattle.serde_json.specs.Data.{string, array, Items, no_items, item}
use Rattle.serde_json.specs.Read.{of_json, of_items, read}
use Rattle.sio_wire.specs.declared.header.Header.{Header}
use Rattle.sio_wire.specs.JsonFields.{texts_of, names_in, names_at}
use Rattle.sio_wire.specs.Shape.{HasPayload, reserved_names}
use Rattle.sio_wire.specs.Texts.{text_tokens, AreAlone, BeginsWithName, IsArrayOf, EndsInTexts, HasPlainNames}

-- these texts, as the elements of an array in the grammar of `json`
abbrev json_items : List (List ℕ) → json.Items
json_items [] = json.no_items
json_items (text ∷ texts) = json.item (json.string text) (json_items texts)

-- the same in a tree
abbrev text_items : List (List ℕ) → Items
text_items [] = no_items
text_items (text ∷ texts) = item (string text) (text_items texts)

of_items-json_items : (texts : List (List ℕ)) → of_items (json_items texts) ≡ Some (text_items texts)
of_items-json_items [] = refl
of_items-json_items (text ∷ texts) = ap (option_map (item (string text))) (of_items-json_items texts)

texts_of-text_items : (texts : List (List ℕ)) → texts_of (text_items texts) ≡ map Some texts
texts_of-text_items [] = refl
texts_of-text_items (text ∷ texts) = ap (λ more. Some text ∷ more) (texts_of-text_items texts)

items-text_tokens : (depth n : ℕ) (texts : List (List ℕ)) → length (text_tokens texts) ≤ n
    → items (value depth) n (text_tokens texts) ≡ Some (json_items texts, [])
items-text_tokens depth n [] enough = items_end (value depth) n (token.end_array ∷ []) [] enough refl
items-text_tokens depth n (text ∷ texts) enough =
    let here = token.string text ∷ text_tokens texts in
    items_more (value depth) n here (text_tokens texts) (json.string text) (omega arith) refl (value_is depth here)
    ∙ ap (parse_map (json.item (json.string text))) (items-text_tokens depth (n - 1) texts (omega arith))

read_texts : (payload : List ℕ) (texts : List (List ℕ)) → IsArrayOf texts payload → read payload ≡ Some (array (text_items texts))
read_texts payload texts is =
    let rest = text_tokens texts in
    let whole = ap (value 127) is ∙ value-begin_array 127 rest (omega arith)
    ∙ ap (parse_map json.array) (items-text_tokens 126 (length rest) texts (omega arith)) in
    ap (λ found. option_and_then of_json (option_and_then (λ p. if_last p.0 p.1) found)) whole
    ∙ ap (option_map array) (of_items-json_items texts)

-- the texts in the array that the payload is
pub names_at-texts : (payload : List ℕ) (texts : List (List ℕ)) → IsArrayOf texts payload → names_at payload ≡ Ok (map Some texts)
names_at-texts payload texts is = ap names_in (read_texts payload texts is) ∙ ap Ok (texts_of-text_items texts)

-- the same of texts that are the only ones
pub names_at-alone : (payload : List ℕ) (names : List (Option (List ℕ))) → AreAlone names payload → names_at payload ≡ Ok names
names_at-alone payload names alone = names_at-texts payload alone.0 alone.1 ∙ ap Ok (sym alone.2)

some_text : (payload : List ℕ) (texts : List (List ℕ)) → IsArrayOf texts payload → payload ≢ []
unfolding lex punctuate
some_text [] texts is = absurd (cc)
some_text (byte ∷ bytes) texts is = λ e. cc

first_name : (names : List (Option (List ℕ))) (texts : List (List ℕ)) → names ≡ map Some texts → BeginsWithName names
    → (name : List ℕ) × (rest : List (List ℕ)) × (texts ≡ name ∷ rest) × (¬ Contains reserved_names name)
first_name names [] same named = absurd (cc (same, named.2))
first_name names (text ∷ texts) same named = let first : text ≡ named.0 = cc (same, named.2) in (text, texts, refl, rw first named.3)

pub HasPayload-plain : (header : Header) (names : List (Option (List ℕ))) → HasPlainNames header names → HasPayload header
HasPayload-plain header names plain =
    let texts = plain.alone.0 in
    let begins = first_name names texts plain.alone.2 plain.named in
    let read = read_texts header.payload texts plain.alone.1 in (
      Some (array (text_items texts)),
      (plain.whole, some_text header.payload texts plain.alone.1, read),
      rw (plain.event, begins.2) refl,
      λ reserved. begins.3 (rw begins.2 at reserved.1),
      λ binary. absurd (true≢false (sym (rw plain.event at binary))),
    )

-- ---- token by token

behind : (text : List ℕ) (rest : List token.Token) (texts : List (List ℕ)) → token.string text ∷ rest ≡ text_tokens texts → EndsInTexts rest
behind text rest [] e = absurd (cc)
behind text rest (first ∷ texts) e = (texts, cc)

-- once a text is passed
pub EndsInTexts-behind : (text : List ℕ) (rest : List token.Token) → EndsInTexts (token.string text ∷ rest) ↔ EndsInTexts rest
EndsInTexts-behind text rest = (λ ends. behind text rest ends.0 ends.1, λ ends. (text ∷ ends.0, ap (λ more. token.string text ∷ more) ends.1))

-- where the array is not over, a text comes first
pub EndsInTexts-goes_on : (ts : List token.Token) → after_end_array ts ≡ None → EndsInTexts ts
    → (text : List ℕ) × (rest : List token.Token) × (ts ≡ token.string text ∷ rest)
EndsInTexts-goes_on ts going ([], e) = absurd (let over : after_end_array ts ≡ Some [] = ap after_end_array e in cc)
EndsInTexts-goes_on ts going (text ∷ texts, e) = (text, text_tokens texts, e)

no_more : (rest : List token.Token) (texts : List (List ℕ)) → token.end_array ∷ rest ≡ text_tokens texts → rest ≡ []
no_more rest [] e = cc
no_more rest (text ∷ texts) e = absurd (cc)

-- where it is over, nothing may follow
pub EndsInTexts-over : (ts rest : List token.Token) → after_end_array ts ≡ Some rest → EndsInTexts ts ↔ (rest ≡ [])
EndsInTexts-over ts rest over =
    let closed = closed_array ts rest over in
    (λ ends. no_more rest ends.0 (sym closed ∙ ends.1), λ none. ([], closed ∙ ap (λ more. token.end_array ∷ more) none))
