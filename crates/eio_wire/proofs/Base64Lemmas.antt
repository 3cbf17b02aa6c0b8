-- The base64 text of the standard engine: a text is that of at most one list of bytes, and the
-- separator of payloads isn't in the alphabet.
use Rattle.std.proofs.Common.{◌≡◌, ◌≢◌, ℕ, ◌+◌, ◌/◌, ◌%◌, ◌*◌, List, [], ◌∷◌, inl, inr, true, slice_index, refl, arith}
use Rattle.std.proofs.lemmas.Bool.{cases_lt}
use Rattle.std.proofs.lemmas.List.{get_or_past}
use Rattle.std.proofs.lemmas.List.Elements.{All-nil, All-cons, All-append, All-replicate}
use Rattle.std.specs.declared.result.Result.TheVariants.{Ok}
use Rattle.base64.specs.Engines.{standard}
use Rattle.base64.specs.GeneralPurpose.{IsConsistent, IsStrict, decode_of, encode_of}
use Rattle.base64.specs.Rfc4648.{encode_group, encode_symbols}
use Rattle.base64.specs.Tables.{is_alphabet}
use Rattle.base64.proofs.EngineFacts.{decode_of-encode_of}
use Rattle.base64.proofs.Tables.{are_tables_alphabet, is_alphabet-length, is_alphabet_symbol}
use Rattle.terms.specs.Bytes.{IsBytes}
use Rattle.eio_wire.specs.Base64.{base64_text}
use Rattle.eio_wire.specs.Payload.{IsWhole}

pub standard_strict : IsStrict standard
standard_strict = (refl, refl)

pub standard_consistent : IsConsistent standard
standard_consistent = refl

pub base64_text-is : (bytes : List ℕ) → base64_text bytes ≡ encode_of standard bytes
unfolding base64_text
base64_text-is bytes = refl

-- what has the text of bytes decodes to them
pub decode_of-base64_text : (t bytes : List ℕ) → IsBytes bytes → t ≡ base64_text bytes → decode_of standard t ≡ Ok bytes
decode_of-base64_text t bytes are is = rw (is, base64_text-is bytes) (decode_of-encode_of standard bytes standard_consistent are)

-- a separator is no symbol of an alphabet
symbol_whole : (t : List ℕ) (pad i : ℕ) → is_alphabet t pad ≡ true → slice_index t i ≢ 30
symbol_whole t pad i h = elim (cases_lt i 64) [
  | inl lt ↦ λ e. absurd (omega (arith, (is_alphabet_symbol t pad i h lt).0))
  | inr ge ↦ λ e.
      let past : slice_index t i ≡ 0 = get_or_past t i 0 (omega (arith, is_alphabet-length t pad h)) in
      absurd (omega arith)
]

-- no separator stands in symbols
abbrev HasNone : List ℕ → Type 0
HasNone t = (i : ℕ) → slice_index t i ≢ 30

abbrev Other : ℕ → Type 0
Other byte = byte ≢ 30

whole_two : (t : List ℕ) (i j : ℕ) → HasNone t → IsWhole (slice_index t i ∷ slice_index t j ∷ [])
whole_two t i j h = All-cons Other (slice_index t i) (slice_index t j ∷ []) (h i) (All-cons Other (slice_index t j) [] (h j) (All-nil Other))

whole_three : (t : List ℕ) (i j k : ℕ) → HasNone t → IsWhole (slice_index t i ∷ slice_index t j ∷ slice_index t k ∷ [])
whole_three t i j k h = All-cons Other (slice_index t i) (slice_index t j ∷ slice_index t k ∷ []) (h i) (whole_two t j k h)

whole_four : (t : List ℕ) (i j k l : ℕ) → HasNone t → IsWhole (slice_index t i ∷ slice_index t j ∷ slice_index t k ∷ slice_index t l ∷ [])
whole_four t i j k l h = All-cons Other (slice_index t i) (slice_index t j ∷ slice_index t k ∷ slice_index t l ∷ []) (h i) (whole_three t j k l h)

whole_symbols : (t m : List ℕ) → HasNone t → IsWhole (encode_symbols t m)
unfolding encode_symbols
whole_symbols t [] h = All-nil Other
whole_symbols t (a ∷ []) h = whole_two t (a / 4) (a % 4 * 16) h
whole_symbols t (a ∷ b ∷ []) h = whole_three t (a / 4) (a % 4 * 16 + b / 16) (b % 16 * 4) h
whole_symbols t (a ∷ b ∷ c ∷ rest) h =
    All-append Other (encode_group t a b c) (encode_symbols t rest)
    (whole_four t (a / 4) (a % 4 * 16 + b / 16) (b % 16 * 4 + c / 64) (c % 64) h)
    (whole_symbols t rest h)

-- no separator stands in a base64 text
pub whole-base64_text : (bytes : List ℕ) → IsWhole (base64_text bytes)
unfolding base64_text
whole-base64_text bytes =
    let alphabet = are_tables_alphabet standard.encode_table standard.decode_table standard.padding.value standard.tables in
    All-append Other (encode_symbols standard.encode_table bytes) _
    (whole_symbols standard.encode_table bytes (λ i. symbol_whole standard.encode_table standard.padding.value i alphabet))
    (All-replicate Other _ 61 (λ e. absurd (omega arith)))
