-- One fault a text, and none where it spells a header.
use Rattle.std.proofs.Common.{◌≡◌, ◌⊎◌, ℕ, List, ◌∷◌, ◌++◌, Bool, false, Option, Result, Ok, Err, refl, sym, ◌∙◌, ap, inl, inr, subst}
use Rattle.std.specs.Prelude.{IsTrue, IfErr}
use Rattle.serde_json.specs.Data.{Data}
use Rattle.sio_wire.specs.declared.header.Kind.{Kind}
use Rattle.sio_wire.specs.declared.header.Header.{Header}
use Rattle.sio_wire.specs.declared.error.SioError.{SioError}
use Rattle.sio_wire.specs.declared.error.SioError.TheVariants.{Memory, BadKind, BadCount, BadId, BadJson, BadShape, Reserved, BadPlaceholder, TooMany}
use Rattle.sio_wire.specs.Kinds.{digit_of}
use Rattle.sio_wire.specs.Shape.{IsTree, IsNoTree, has_shape, HasReservedName, IsPlaced, HasPayload}
use Rattle.sio_wire.specs.Header.{SpacePart, HasParts, Sio, SpellsNothing}
use Rattle.sio_wire.specs.Scan.{kind_at, count_at, space_at, id_at, header_at}
use Rattle.sio_wire.specs.Faults.{PayloadFault, FollowsCount, HasFault}
use Rattle.sio_wire.proofs.ScanLemmas.{bind_err, kind_at-takes, kind_at-again, kind_at-fault, kind_at-no_kind, count_at-takes, count_at-again, count_at-fault, count_at-no_count, count_at-too_many, space_at-takes, space_at-again, space_at-fault, space_at-bad, id_at-fault, id_at-too_long}
use Rattle.sio_wire.proofs.ShapeLemmas.{IsTree-once}
use Rattle.sio_wire.proofs.HeaderLemmas.{header_at-HasParts, HasParts-header_at, HasParts-once}

-- the tree of this payload has this shape
shape_along : (h : Header) (a b : Option Data) (v : Bool) → IsTree h.payload a → IsTree h.payload b → has_shape h.kind h.id a ≡ v → has_shape h.kind h.id b ≡ v
shape_along h a b v x y e = subst (λ (tree : Option Data). has_shape h.kind h.id tree ≡ v) (IsTree-once h.payload a b x y) e

one_shape : (h : Header) (a b : Option Data) → IsTree h.payload a → IsTree h.payload b → has_shape h.kind h.id a ≡ false → IsTrue (has_shape h.kind h.id b) → ⊥
one_shape h a b x y e s = let other = shape_along h a b false x y e in cc (other, s)

reserved_along : (h : Header) (a b : Option Data) → IsTree h.payload a → IsTree h.payload b → HasReservedName h.kind a → HasReservedName h.kind b
reserved_along h a b x y r = subst (HasReservedName h.kind) (IsTree-once h.payload a b x y) r

not_json : (h : Header) (f : SioError) → IsNoTree h.payload → PayloadFault h f → BadJson ≡ f
not_json h BadJson x y = refl
not_json h BadShape x y = absurd (x y.0 y.1)
not_json h Reserved x y = absurd (x y.0 y.1)
not_json h BadPlaceholder x y = absurd (x y.0 y.1)
not_json h _ x y = absurd y

not_shaped : (h : Header) (f : SioError) → PayloadFault h BadShape → PayloadFault h f → BadShape ≡ f
not_shaped h BadJson x y = absurd (y x.0 x.1)
not_shaped h BadShape x y = refl
not_shaped h Reserved x y = absurd (one_shape h x.0 y.0 x.1 y.1 x.2 y.2)
not_shaped h BadPlaceholder x y = absurd (one_shape h x.0 y.0 x.1 y.1 x.2 y.2)
not_shaped h _ x y = absurd y

is_reserved : (h : Header) (f : SioError) → PayloadFault h Reserved → PayloadFault h f → Reserved ≡ f
is_reserved h BadJson x y = absurd (y x.0 x.1)
is_reserved h BadShape x y = absurd (one_shape h y.0 x.0 y.1 x.1 y.2 x.2)
is_reserved h Reserved x y = refl
is_reserved h BadPlaceholder x y = absurd (y.3 (reserved_along h x.0 y.0 x.1 y.1 x.3))
is_reserved h _ x y = absurd y

not_placed : (h : Header) (f : SioError) → PayloadFault h BadPlaceholder → PayloadFault h f → BadPlaceholder ≡ f
not_placed h BadJson x y = absurd (y x.0 x.1)
not_placed h BadShape x y = absurd (one_shape h y.0 x.0 y.1 x.1 y.2 x.2)
not_placed h Reserved x y = absurd (x.3 (reserved_along h y.0 x.0 y.1 x.1 y.3))
not_placed h BadPlaceholder x y = refl
not_placed h _ x y = absurd y

-- a payload has one fault at most
PayloadFault-once : (h : Header) (e f : SioError) → PayloadFault h e → PayloadFault h f → e ≡ f
PayloadFault-once h BadJson f x y = not_json h f x y
PayloadFault-once h BadShape f x y = not_shaped h f x y
PayloadFault-once h Reserved f x y = is_reserved h f x y
PayloadFault-once h BadPlaceholder f x y = not_placed h f x y
PayloadFault-once h _ f x y = absurd x

-- a payload that is as its header allows has no fault
HasPayload-no_fault : (h : Header) (e : SioError) → HasPayload h → PayloadFault h e → ⊥
HasPayload-no_fault h BadJson p x = x p.0 p.1
HasPayload-no_fault h BadShape p x = one_shape h x.0 p.0 x.1 p.1 x.2 p.2
HasPayload-no_fault h Reserved p x = p.3 (reserved_along h x.0 p.0 x.1 p.1 x.3)
HasPayload-no_fault h BadPlaceholder p x =
    x.4 (subst (IsPlaced h.kind h.count) (IsTree-once h.payload p.0 x.0 p.1 x.1) p.4)
HasPayload-no_fault h _ p x = x

-- ---- a text's fault is the one that reading it from left to right meets

-- the fault that reading meets
abbrev pub MeetsFault : List ℕ → SioError → Type 0
MeetsFault t e = (header_at t ≡ Err e) ⊎ ((h : Header) × (header_at t ≡ Ok h) × PayloadFault h e)

kind_met : (t : List ℕ) (e : SioError) → kind_at t ≡ Err e → HasFault t e
unfolding HasFault
kind_met t e h = let x = kind_at-fault t e h in subst (HasFault t) (sym x.0) x.1

count_met : (t : List ℕ) (kind : Kind) (rest : List ℕ) (e : SioError) → kind_at t ≡ Ok (kind, rest) → count_at kind rest ≡ Err e → HasFault t e
unfolding HasFault
count_met t kind rest e k h =
    let x = count_at-fault kind rest e h in
    let begins : t ≡ digit_of kind ∷ rest = kind_at-takes t (kind, rest) k in
    elim x.1 [
      | inl bad ↦ subst (HasFault t) (sym bad.0) (kind, rest, begins, x.0, bad.1)
      | inr many ↦ subst (HasFault t) (sym many.0)
          (kind, many.1.0, many.1.1, many.1.2, begins ∙ ap (λ (r : List ℕ). digit_of kind ∷ r) many.1.3, x.0, many.1.4, many.1.5)
    ]

follows : (t : List ℕ) (kind : Kind) (after_kind : List ℕ) (n : ℕ) (rest : List ℕ) → kind_at t ≡ Ok (kind, after_kind) → count_at kind after_kind ≡ Ok (n, rest) → FollowsCount t rest
follows t kind after_kind n rest k c =
    let took = count_at-takes kind after_kind n rest c in
    (kind, n, took.0, kind_at-takes t (kind, after_kind) k ∙ ap (λ (r : List ℕ). digit_of kind ∷ r) took.1, took.2)

space_met : (t rest : List ℕ) (e : SioError) → FollowsCount t rest → space_at rest ≡ Err e → HasFault t e
unfolding HasFault
space_met t rest e f h = let x = space_at-fault rest e h in subst (HasFault t) (sym x.0) (inl (rest, f, x.1.0, x.1.1))

id_met : (t rest space after_space : List ℕ) (e : SioError) → FollowsCount t rest → space_at rest ≡ Ok (space, after_space) → id_at after_space ≡ Err e → HasFault t e
unfolding HasFault
id_met t rest space after_space e f s h =
    let x = id_at-fault after_space e h in
    let named = space_at-takes rest space after_space s in
    let long = x.1 in
    let whole : rest ≡ named.0 ++ (long.0 ++ long.1) = named.1 ∙ ap (λ (r : List ℕ). named.0 ++ r) long.2 in
    subst (HasFault t) (sym x.0)
    (space, named.0, long.0, long.1, subst (FollowsCount t) whole f, subst (SpacePart space named.0) long.2 named.2, long.3, long.4)

parts_met : (t : List ℕ) (e : SioError) → header_at t ≡ Err e → HasFault t e
unfolding header_at
parts_met t e h = elim (bind_err (kind_at t) _ e h) [
  | inl x ↦ kind_met t e x
  | inr kind ↦ elim (bind_err (count_at kind.0.0 kind.0.1) _ e kind.2) [
    | inl x ↦ count_met t kind.0.0 kind.0.1 e kind.1 x
    | inr count ↦ (let after = follows t kind.0.0 kind.0.1 count.0.0 count.0.1 kind.1 count.1 in
        elim (bind_err (space_at count.0.1) _ e count.2) [
          | inl x ↦ space_met t count.0.1 e after x
          | inr space ↦ elim (bind_err (id_at space.0.1) _ e space.2) [
            | inl x ↦ id_met t count.0.1 space.0.0 space.0.1 e after space.1 x
            | inr id ↦ absurd (cc (id.2))
          ]
        ])
  ]
]

payload_met : (t : List ℕ) (h : Header) (e : SioError) → HasParts h t → PayloadFault h e → HasFault t e
unfolding HasFault
payload_met t h BadJson p x = (h, p, x)
payload_met t h BadShape p x = inr (h, p, x)
payload_met t h Reserved p x = (h, p, x)
payload_met t h BadPlaceholder p x = (h, p, x)
payload_met t h _ p x = absurd x

pub HasFault-met : (t : List ℕ) (e : SioError) → MeetsFault t e → HasFault t e
HasFault-met t e (inl x) = parts_met t e x
HasFault-met t e (inr x) = payload_met t x.0 e (HasParts-header_at x.0 t x.1) x.2

pub met-HasFault : (t : List ℕ) (e : SioError) → HasFault t e → MeetsFault t e
unfolding HasFault header_at
met-HasFault t BadKind x = inl (rw (kind_at-no_kind t x) refl)
met-HasFault t BadCount x = inl (rw (x.2, kind_at-again x.0 x.1, count_at-no_count x.0 x.1 x.3 x.4) refl)
met-HasFault t TooMany x = inl (rw (x.4, kind_at-again x.0 (x.2 ++ 45 ∷ x.3), count_at-too_many x.0 x.1 x.2 x.3 x.5 x.6 x.7) refl)
met-HasFault t BadShape (inl x) =
    let f = x.1 in inl (rw (f.3, kind_at-again f.0 (f.2 ++ x.0), count_at-again f.0 f.1 f.2 x.0 f.4, space_at-bad x.0 (x.2, x.3)) refl)
met-HasFault t BadShape (inr x) = inr (x.0, header_at-HasParts x.0 t x.1, x.2)
met-HasFault t BadId x =
    let f = x.4 in
    let rest = x.1 ++ (x.2 ++ x.3) in
    inl (rw (f.3, kind_at-again f.0 (f.2 ++ rest), count_at-again f.0 f.1 f.2 rest f.4, space_at-again x.0 x.1 (x.2 ++ x.3) x.5, id_at-too_long x.2 x.3 x.6 x.7) refl)
met-HasFault t BadJson x = inr (x.0, header_at-HasParts x.0 t x.1, x.2)
met-HasFault t Reserved x = inr (x.0, header_at-HasParts x.0 t x.1, x.2)
met-HasFault t BadPlaceholder x = inr (x.0, header_at-HasParts x.0 t x.1, x.2)
met-HasFault t _ x = absurd x

-- ---- the laws

MeetsFault-once : (e f : SioError) (t : List ℕ) → MeetsFault t e → MeetsFault t f → e ≡ f
MeetsFault-once e f t (inl a) (inl b) = cc (a, b)
MeetsFault-once e f t (inl a) (inr b) = absurd (let x = b.1 in cc (a, x))
MeetsFault-once e f t (inr a) (inl b) = absurd (let x = a.1 in cc (b, x))
MeetsFault-once e f t (inr a) (inr b) =
    let same = HasParts-once a.0 b.0 t (HasParts-header_at a.0 t a.1) (HasParts-header_at b.0 t b.1) in
    PayloadFault-once b.0 e f (subst (λ (h : Header). PayloadFault h e) same a.2) b.2

pub HasFault-once : (e f : SioError) (t : List ℕ) → HasFault t e → HasFault t f → e ≡ f
HasFault-once e f t a b = MeetsFault-once e f t (met-HasFault t e a) (met-HasFault t f b)

spells_nothing : (e : SioError) (t : List ℕ) → MeetsFault t e → (h : Header) → HasParts h t → HasPayload h → ⊥
spells_nothing e t (inl a) h s p = let x = header_at-HasParts h t s in cc (a, x)
spells_nothing e t (inr a) h s p =
    let same = HasParts-once a.0 h t (HasParts-header_at a.0 t a.1) s in
    HasPayload-no_fault h e p (subst (λ (g : Header). PayloadFault g e) same a.2)

pub HasFault-spells_nothing : (e : SioError) (t : List ℕ) → HasFault t e → SpellsNothing t
unfolding Sio
HasFault-spells_nothing e t x = λ h s. spells_nothing e t (met-HasFault t e x) h s.0 s.1

-- ---- what the reader answers

pub fault_met : (answer : Result Header SioError) (t : List ℕ) → IfErr answer (λ e. (e ≡ Memory) ⊎ MeetsFault t e) → IfErr answer (λ e. (e ≡ Memory) ⊎ HasFault t e)
fault_met (Ok h) t x = x
fault_met (Err e) t (inl x) = inl x
fault_met (Err e) t (inr x) = inr (HasFault-met t e x)

-- an answer that names the text's fault says that it spells nothing
pub refused_by_fault : (answer : Result Header SioError) (t : List ℕ) → IfErr answer (λ e. (e ≡ Memory) ⊎ MeetsFault t e) → IfErr answer (λ e. (e ≡ Memory) ⊎ SpellsNothing t)
refused_by_fault (Ok h) t x = x
refused_by_fault (Err e) t (inl x) = inl x
refused_by_fault (Err e) t (inr x) = inr (HasFault-spells_nothing e t (HasFault-met t e x))
