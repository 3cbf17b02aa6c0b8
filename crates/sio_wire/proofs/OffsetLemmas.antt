-- The payload before its last bracket, and the plain text of a packet.
use Rattle.std.proofs.Common.{◌≡◌, ◌≢◌, ℕ, ◌-◌, ◌<◌, ◌++◌, List, Option, length, get_or, take, reverse, true, false, not, ◌∙◌, ap, arith, append_assoc}
use Rattle.std.specs.List.{before_last, suffix_len, list_any}
use Rattle.std.specs.Option.{option_map_or}
use Rattle.std.proofs.lemmas.Bool.Decides.{nat_tests}
use Rattle.std.proofs.lemmas.List.{get_or-reverse, length-reverse}
use Rattle.std.proofs.lemmas.List.Folds.{list_any_none}
use Rattle.std.proofs.lemmas.List.Sums.{prefix_len_is}
use Rattle.std.proofs.lemmas.List.Elements.{All-from_get_or}
use Rattle.sio_wire.specs.declared.header.Front.{Front}
use Rattle.sio_wire.specs.Header.{Plain, front_text}
use Rattle.sio_wire.specs.Offset.{is_bracket, packet_header, payload_with_offset}

is_bracket-true : (b : ℕ) → b ≡ 93 → is_bracket b ≡ true
is_bracket-true b is = grind (arith, nat_tests)

is_bracket-false : (b : ℕ) → b ≢ 93 → is_bracket b ≡ false
is_bracket-false b other = grind (arith, nat_tests)

pub no_bracket : (text : List ℕ) → ((i : ℕ) → i < length text → get_or text i 0 ≢ 93) → list_any is_bracket text ≡ false
no_bracket text none = list_any_none is_bracket text (All-from_get_or (λ b. is_bracket b ≡ false) text 0 (λ i within. is_bracket-false _ (none i within)))

-- counted from the end, the first bracket is the last one
suffix_len-bracket : (text : List ℕ) (at : ℕ) → at < length text → get_or text at 0 ≡ 93 → ((i : ℕ) → at < i → i < length text → get_or text i 0 ≢ 93)
    → suffix_len (λ b. not (is_bracket b)) text ≡ length text - at - 1
suffix_len-bracket text at within here after = prefix_len_is (λ b. not (is_bracket b)) (reverse text) (length text - at - 1) 0 (rw length-reverse (omega arith))
    (λ k below. rw (get_or-reverse text k 0 (omega arith)) (ap not (is_bracket-false _ (after (length text - 1 - k) (omega arith) (omega arith)))))
    (λ _. rw (get_or-reverse text (length text - at - 1) 0 (omega arith)) (ap (λ i. not (is_bracket (get_or text i 0))) (let same : length text - 1 - (length text - at - 1) ≡ at = omega arith in same) ∙ ap not (is_bracket-true _ here)))

pub before_last_bracket : (text : List ℕ) (at : ℕ) → at < length text → get_or text at 0 ≡ 93 → ((i : ℕ) → at < i → i < length text → get_or text i 0 ≢ 93)
    → before_last is_bracket text ≡ take at text
before_last_bracket text at within here after =
    ap (λ n. take n text) (let same : length text - suffix_len (λ b. not (is_bracket b)) text - 1 ≡ at = omega (arith, suffix_len-bracket text at within here after) in same)

-- the front and the payload one after another are the plain text
pub Plain-packet : (front : Front) (payload : List ℕ) (offset : Option ℕ) → Plain (packet_header front payload offset) (front_text front ++ option_map_or (payload_with_offset payload) offset payload)
unfolding Plain
Plain-packet front payload offset = simp append_assoc
