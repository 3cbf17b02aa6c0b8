use Rattle.std.proofs.Common.{rules, arith, ◌≡◌, ℕ, ◌+◌, List, [], ◌∷◌, ◌++◌, map, take, Some, slice_get, sym, ◌∙◌, ap}
use Rattle.std.specs.Arc.{arc_value}
use Rattle.std.proofs.lemmas.List.{map-append, take-map}
use Rattle.journal.proofs.OutboxesLemmas.{take_next}
use Rattle.hub_state.proofs.client.Outbox.share_first.Goals as goal

-- one entry more is shared
shared : {A B : Type 0} (value : A → B) (items more xs : List A) (i : ℕ) (x y : A) → more ≡ items ++ y ∷ [] → map value items ≡ map value (take i xs) → value y ≡ value x → Some x ≡ slice_get xs i
    → map value more ≡ map value (take (i + 1) xs)
shared value items more xs i x y is so_far same there =
    ap (λ ys. map value ys) is ∙ map-append value items (y ∷ []) ∙ ap (λ ys. ys ++ value y ∷ []) so_far ∙ ap (λ v. map value (take i xs) ++ v ∷ []) same
    ∙ sym (map-append value (take i xs) (x ∷ [])) ∙ ap (λ ys. map value ys) (sym (take_next xs i x there))

pub loop-index-preserved : goal.loop-index-preserved
loop-index-preserved c =
    let at = c.loop-index in
    let items = c.self.inside.ring.items in
    let x = c.in-Some.entry.now in
    let there : Some x ≡ slice_get items at.index = search rules in
    let same : arc_value c.in_ok-try_clone.field-0 ≡ arc_value x = search rules in
    shared arc_value at.entries.items c.push.new.self.items items at.index x c.in_ok-try_clone.field-0 c.in_ok-push.ensures.items at.invariant same there

pub returns : goal.returns
returns c =
    let at = c.loop-index in
    let items = c.self.inside.ring.items in
    let end : at.index ≡ c.args.count = omega arith in
    let waits : map arc_value items ≡ c.args.self.now.waiting = search rules in
    at.invariant ∙ sym (take-map arc_value at.index items) ∙ ap (λ (n : ℕ). take n (map arc_value items)) end ∙ ap (λ w. take c.args.count w) waits
