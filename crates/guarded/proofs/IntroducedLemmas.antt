-- What is told of a client that came in holds no U+001E.
use Rattle.std.proofs.Common.{◌≡◌, refl, sym, subst, ℕ, Bool, true, false, List, Option, Some, None, option_and_then}
use Rattle.std.specs.Prelude.{if◌then◌else◌, bytes_eq, codes, Result, Ok, Err, IfOk}
use Rattle.json.specs.Json.{Json, null, boolean, number, string, array, object, Members, no_members, member, document}
use Rattle.json.specs.Find.{as_object}
use Rattle.json.specs.Tree.{HasNumbers, MembersHaveNumbers}
use Rattle.json.proofs.Numbered.{document-HasNumbers}
use Rattle.json.proofs.Printed.Trees.{ArePrintable-json_tokens}
use Rattle.eio_wire.specs.Payload.{IsWhole}
use Rattle.tokens.specs.Payload.{other_members, others, others_or, without_token}
use Rattle.guarded.proofs.PrintLemmas.{AreWhole-printable, whole-print}

chosen : (b : Bool) (k : List ℕ) (j : Json) (ms : Members) → HasNumbers j → MembersHaveNumbers ms → MembersHaveNumbers (if b then ms else member k j ms)
chosen true k j ms has rest = rest
chosen false k j ms has rest = (has, rest)

members-numbers : (ms : Members) → MembersHaveNumbers ms → MembersHaveNumbers (other_members ms)
members-numbers no_members has = has
members-numbers (member k j ms) has = chosen (bytes_eq k (codes "token")) k j (other_members ms) has.0 (members-numbers ms has.1)

whole-others : (ms : Members) → MembersHaveNumbers ms → IsWhole (others ms)
whole-others ms has = whole-print _ (AreWhole-printable _ (ArePrintable-json_tokens (object (other_members ms)) (members-numbers ms has)))

whole-without : (payload : List ℕ) → IsWhole payload → IsWhole (without_token payload)
whole-without payload clean = on (document payload) refl
  where
    of-value : (j : Json) → HasNumbers j → IsWhole (others_or payload (as_object j))
    of-value null has = clean
    of-value (boolean b) has = clean
    of-value (number s) has = clean
    of-value (string s) has = clean
    of-value (array js) has = clean
    of-value (object ms) has = whole-others ms has

    on : (o : Option Json) → document payload ≡ o → IsWhole (others_or payload (option_and_then as_object o))
    on None is = clean
    on (Some j) is = of-value j (document-HasNumbers payload j is)

-- what holds of a text that a call gives
pub if_without : {E : Type 0} (payload : List ℕ) (r : Result (List ℕ) E) → IfOk r (λ text. text ≡ without_token payload) → IfOk r (λ text. IsWhole payload → IsWhole text)
if_without payload (Ok text) is = λ clean. subst IsWhole (sym is) (whole-without payload clean)
if_without payload (Err e) is = tt
