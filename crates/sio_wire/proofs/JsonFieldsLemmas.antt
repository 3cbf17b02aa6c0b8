-- The texts of one more element.
use Rattle.std.proofs.Common.{◌≡◌, ℕ, ◌+◌, ◌<◌, List, [], ◌∷◌, ◌++◌, take, get_or, length, refl, ap}
use Rattle.std.proofs.lemmas.List.{take_more}
use Rattle.serde_json.specs.Find.{as_str}
use Rattle.serde_json.specs.View.{view, items_view}
use Rattle.serde_json.specs.declared.value.Value.{Value}
use Rattle.sio_wire.specs.JsonFields.{texts_of}

texts_of-snoc : (vs : List Value) (v : Value) → texts_of (items_view (vs ++ v ∷ [])) ≡ texts_of (items_view vs) ++ as_str (view v) ∷ []
texts_of-snoc [] v = refl
texts_of-snoc (w ∷ vs) v = ap (λ ns. as_str (view w) ∷ ns) (texts_of-snoc vs v)

pub texts_of-more : (vs : List Value) (i : ℕ) (v : Value) → i < length vs → v ≡ get_or vs i v
    → texts_of (items_view (take (i + 1) vs)) ≡ texts_of (items_view (take i vs)) ++ as_str (view v) ∷ []
texts_of-more vs i v h is = rw (take_more vs i v h, ← is) (texts_of-snoc (take i vs) v)
