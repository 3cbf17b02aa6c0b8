-- No record separator stands in a header's payload.
use Rattle.std.proofs.Common.{◌≢◌, ℕ, List, Option, Some, None}
use Rattle.std.specs.List.{All, Contains}
use Rattle.std.proofs.lemmas.List.{get_or_default}
use Rattle.std.proofs.lemmas.List.Elements.{All-nil}
use Rattle.std.proofs.Common.{◌∙◌}
use Rattle.serde_json.specs.Data.{Data}
use Rattle.sio_wire.specs.declared.header.Header.{Header}
use Rattle.sio_wire.specs.Header.{Sio}
use Rattle.sio_wire.specs.Shape.{IsTree}

lacks_separator : (text : List ℕ) → (Contains text 30 → ⊥) → All (λ byte. byte ≢ 30) text
lacks_separator text none k d within is = none (k, within, get_or_default text k 30 d within ∙ is)

whole_tree : (text : List ℕ) (tree : Option Data) → IsTree text tree → All (λ byte. byte ≢ 30) text
whole_tree text None empty = rw empty (All-nil (λ byte. byte ≢ 30))
whole_tree text (Some v) is = lacks_separator text is.0

pub whole_payload : (h : Header) (t : List ℕ) → Sio h t → All (λ byte. byte ≢ 30) h.payload
unfolding Sio
whole_payload h t spells = whole_tree h.payload spells.1.0 spells.1.1
