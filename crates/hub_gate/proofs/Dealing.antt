-- One peer more is dealt.
use Rattle.std.proofs.Common.{◌≡◌, ◌≢◌, ℕ, zero, suc, ◌+◌, ◌%◌, ◌<◌, ◌==◌, List, [], ◌∷◌, ◌++◌, length, map, Bool, true, false, Some, append_assoc, eqb-true, false-eqb, arith, refl, sym, ◌∙◌, ap, subst}
use Rattle.std.proofs.Math.ListN.{set}
use Rattle.std.proofs.lemmas.List.{length-set, get_or-set_same, get_or-set_other, append-nil, map-append}
use Rattle.std.proofs.lemmas.Option.{slice_get_within, get_or_from_slice_get, slice_get-get_or}
use Rattle.std.specs.List.{enumerate_from, slice_get}
use Rattle.hub_gate.specs.Serving.{of_worker}

-- each queue, with what is still to be dealt to it from this number on, is what it gets in all
abbrev pub AreDue : {P : Type 0} → (workers number : ℕ) → (rest all : List P) → List (List P) → Type 0
AreDue {P} workers number rest all queues = (w : ℕ) (queue : List P) → slice_get queues w ≡ Some queue
    → queue ++ of_worker workers w (enumerate_from number rest) ≡ of_worker workers w (enumerate_from 0 all)

get-set_same : {X : Type 0} (xs : List X) (k : ℕ) (x y : X) → k < length xs → slice_get (set xs k x) k ≡ Some y → y ≡ x
get-set_same xs k x y within is = sym (get_or_from_slice_get (set xs k x) k y x is) ∙ get_or-set_same xs k x x within

get-set_other : {X : Type 0} (xs : List X) (k w : ℕ) (x y : X) → w ≢ k → slice_get (set xs k x) w ≡ Some y → slice_get xs w ≡ Some y
get-set_other xs k w x y other is =
    let below : w < length (set xs k x) = slice_get_within (set xs k x) w y is in
    slice_get-get_or xs w y (omega (arith, length-set xs k x))
    ∙ ap (λ z. Some z) (sym (get_or-set_other xs k w x y other) ∙ get_or_from_slice_get (set xs k x) w y y is)

-- the first that is due is dealt to queue k
due_more_by : {P : Type 0} (workers number : ℕ) (p : P) (rest all : List P) (queues : List (List P)) (k : ℕ) (old : List P) (w : ℕ) (queue : List P) (b : Bool)
    → (number % workers == w) ≡ b → k ≡ number % workers → k < length queues → slice_get queues k ≡ Some old
    → AreDue workers number (p ∷ rest) all queues → slice_get (set queues k (old ++ p ∷ [])) w ≡ Some queue
    → queue ++ of_worker workers w (enumerate_from (number + 1) rest) ≡ of_worker workers w (enumerate_from 0 all)
due_more_by {P} workers number p rest all queues k old w queue true is at within had due found =
    let here : w ≡ k = sym (at ∙ eqb-true (number % workers) w is) in
    let same : queue ≡ old ++ p ∷ [] = get-set_same queues k (old ++ p ∷ []) queue within (subst (λ v. slice_get (set queues k (old ++ p ∷ [])) v ≡ Some queue) here found) in
    let was = due w old (subst (λ v. slice_get queues v ≡ Some old) (sym here) had) in
    ap (λ q. q ++ of_worker workers w (enumerate_from (number + 1) rest)) same
    ∙ append_assoc old (p ∷ []) (of_worker workers w (enumerate_from (number + 1) rest))
    ∙ (rw is at was)
due_more_by {P} workers number p rest all queues k old w queue false is at within had due found =
    let other : w ≢ k = (λ (e : w ≡ k). false-eqb (number % workers) w (sym is) (sym at ∙ sym e)) in
    let was = due w queue (get-set_other queues k w (old ++ p ∷ []) queue other found) in
    rw is at was

pub due_more : {P : Type 0} (workers number : ℕ) (p : P) (rest all : List P) (queues : List (List P)) (k : ℕ) (old : List P)
    → k ≡ number % workers → k < length queues → slice_get queues k ≡ Some old
    → AreDue workers number (p ∷ rest) all queues → AreDue workers (number + 1) rest all (set queues k (old ++ p ∷ []))
due_more workers number p rest all queues k old at within had due w queue found =
    due_more_by workers number p rest all queues k old w queue (number % workers == w) refl at within had due found

empty_more_at : {P : Type 0} (queues : List (List P)) (v : List P) → v ≡ [] → ((w : ℕ) (queue : List P) → slice_get queues w ≡ Some queue → queue ≡ [])
    → (w : ℕ) (queue : List P) → slice_get (queues ++ v ∷ []) w ≡ Some queue → queue ≡ []
empty_more_at [] v is all zero queue found = let same : v ≡ queue = cc (found) in sym same ∙ is
empty_more_at [] v is all (suc w) queue found = absurd (cc (found))
empty_more_at (x ∷ xs) v is all zero queue found = all zero queue found
empty_more_at (x ∷ xs) v is all (suc w) queue found = empty_more_at xs v is (λ u rest. all (suc u) rest) w queue found

-- one empty queue more
pub empty_more : {P Q : Type 0} (items : Q → List P) (queues : List Q) (v : Q) → items v ≡ [] → ((w : ℕ) (queue : List P) → slice_get (map items queues) w ≡ Some queue → queue ≡ [])
    → (w : ℕ) (queue : List P) → slice_get (map items (queues ++ v ∷ [])) w ≡ Some queue → queue ≡ []
empty_more {P} items queues v is all w queue found =
    empty_more_at (map items queues) (items v) is all w queue (subst (λ (xs : List (List P)). slice_get xs w ≡ Some queue) (map-append items queues (v ∷ [])) found)

-- empty queues get all that is dealt to them
pub due_begins : {P : Type 0} (workers : ℕ) (all : List P) (queues : List (List P)) → ((w : ℕ) (queue : List P) → slice_get queues w ≡ Some queue → queue ≡ [])
    → AreDue workers 0 all all queues
due_begins workers all queues empty w queue found = rw (empty w queue found) refl

-- nothing more is to be dealt
pub due_ends : {P : Type 0} (workers number : ℕ) (all : List P) (queues : List (List P)) → AreDue workers number [] all queues
    → (w : ℕ) (queue : List P) → slice_get queues w ≡ Some queue → queue ≡ of_worker workers w (enumerate_from 0 all)
due_ends workers number all queues due w queue found = sym (append-nil queue) ∙ due w queue found

pub nothing_left : {P : Type 0} (items : List P) (n : ℕ) → n ≡ length items → n ≡ 0 → items ≡ []
nothing_left [] n is none = refl
nothing_left (x ∷ xs) n is none = absurd (omega arith)
