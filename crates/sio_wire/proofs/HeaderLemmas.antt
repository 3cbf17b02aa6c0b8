-- One header a text, and the plain text spells its header.
use Rattle.std.proofs.Common.{arith, ◌≡◌, ◌≢◌, ℕ, ◌≤◌, List, [], ◌∷◌, ◌++◌, Bool, true, false, cond, Option, Some, None, Ok, refl, sym, ◌∙◌, ap, inl, inr, subst}
use Rattle.std.specs.Prelude.{slice_index, bytes_eq, decimal, codes, MatchBool}
use Rattle.std.proofs.lemmas.Slice.Eq.{bytes_eq-Decides}
use Rattle.serde_json.specs.Data.{Data}
use Rattle.sio_wire.specs.declared.header.Kind.{Kind}
use Rattle.sio_wire.specs.declared.header.Header.{Header}
use Rattle.sio_wire.specs.Kinds.{digit_of, is_binary}
use Rattle.sio_wire.specs.Shape.{IsTree, HasPayload}
use Rattle.sio_wire.specs.Header.{Writes, SpacePart, IdPart, HasParts, Sio, Plain, count_text, space_text, id_text}
use Rattle.sio_wire.specs.Scan.{kind_at, count_at, space_at, id_at, header_at}
use Rattle.sio_wire.proofs.DigitsLemmas.{Writes-decimal, digits_no_slash}
use Rattle.sio_wire.proofs.ScanLemmas.{bind_ok, given_is, kind_at-takes, kind_at-again, count_at-takes, count_at-again, space_at-takes, space_at-again, id_at-takes, id_at-again}
use Rattle.sio_wire.proofs.ShapeLemmas.{payload_no_slash}

-- ---- a text is spelled as it is read

pub header_at-HasParts : (h : Header) (t : List ℕ) → HasParts h t → header_at t ≡ Ok h
unfolding header_at
header_at-HasParts h t s =
    let kind = kind_at-again h.kind (s.count ++ (s.space ++ (s.id ++ h.payload))) in
    let count = count_at-again h.kind h.count s.count (s.space ++ (s.id ++ h.payload)) s.counted in
    let space = space_at-again h.space s.space (s.id ++ h.payload) s.named in
    let id = id_at-again h.id s.id h.payload s.numbered s.no_digit in
    rw (s.whole, kind, count, space, id) refl

-- a text has one header's parts at most
pub HasParts-once : (g h : Header) (t : List ℕ) → HasParts g t → HasParts h t → g ≡ h
HasParts-once g h t a b = given_is h g (sym (header_at-HasParts h t b) ∙ header_at-HasParts g t a)

pub Sio-once : (g h : Header) (t : List ℕ) → Sio g t → Sio h t → g ≡ h
unfolding Sio
Sio-once g h t a b = HasParts-once g h t a.0 b.0

-- a header of these parts
abbrev made : Kind → ℕ → List ℕ → Option ℕ → List ℕ → Header
made kind n space id payload = record { kind = kind; space = space; id = id; payload = payload; count = n }

spelled : (kind : Kind) (n : ℕ) (space : List ℕ) (id : Option ℕ) (payload t after_kind after_count after_space : List ℕ)
    → kind_at t ≡ Ok (kind, after_kind) → count_at kind after_kind ≡ Ok (n, after_count) → space_at after_count ≡ Ok (space, after_space)
    → id_at after_space ≡ Ok (id, payload) → HasParts (made kind n space id payload) t
spelled kind n space id payload t after_kind after_count after_space k c s i =
    let counted = count_at-takes kind after_kind n after_count c in
    let named = space_at-takes after_count space after_space s in
    let numbered = id_at-takes after_space id payload i in
    record {
      count = counted.0;
      space = named.0;
      id = numbered.0;
      whole = kind_at-takes t (kind, after_kind) k
          ∙ ap (λ (r : List ℕ). digit_of kind ∷ r) (counted.1 ∙ ap (λ (r : List ℕ). counted.0 ++ r) (named.1 ∙ ap (λ (r : List ℕ). named.0 ++ r) numbered.1));
      counted = counted.2;
      named = subst (λ (r : List ℕ). SpacePart space named.0 r) numbered.1 named.2;
      numbered = numbered.2;
      no_digit = numbered.3;
    }

-- what was read is spelled so
pub HasParts-header_at : (h : Header) (t : List ℕ) → header_at t ≡ Ok h → HasParts h t
unfolding header_at
HasParts-header_at h t e =
    let kind = bind_ok (kind_at t) _ h e in
    let count = bind_ok (count_at kind.0.0 kind.0.1) _ h kind.2 in
    let space = bind_ok (space_at count.0.1) _ h count.2 in
    let id = bind_ok (id_at space.0.1) _ h space.2 in
    let whole : h ≡ made kind.0.0 count.0.0 space.0.0 id.0.0 id.0.1 = given_is _ h id.2 in
    subst (λ (g : Header). HasParts g t) (sym whole)
    (spelled kind.0.0 count.0.0 space.0.0 id.0.0 id.0.1 t kind.0.1 count.0.1 space.0.1 kind.1 count.1 space.1 id.1)

pub Sio-header_at : (h : Header) (t : List ℕ) → header_at t ≡ Ok h → HasPayload h → Sio h t
unfolding Sio
Sio-header_at h t e p = (HasParts-header_at h t e, p)

-- ---- the plain text

abbrev CountIs : Bool → ℕ → List ℕ → Type 0
CountIs b n part = MatchBool b ((digits : List ℕ) × Writes n digits × (n ≤ 32) × (part ≡ digits ++ 45 ∷ [])) ((part ≡ []) × (n ≡ 0))

plain_count : (b : Bool) (n : ℕ) (part : List ℕ) → CountIs b n part → CountIs b n (cond b (decimal n ++ 45 ∷ []) [])
plain_count true n part h = (decimal n, Writes-decimal n h.0 h.1, h.2, refl)
plain_count false n part h = (refl, h.1)

plain_id : (id : Option ℕ) (part : List ℕ) → IdPart id part → IdPart id (id_text id)
plain_id None part h = refl
plain_id (Some n) part h = Writes-decimal n part h

-- behind the namespace there is no `/`
rest_no_slash : (id : Option ℕ) (part payload : List ℕ) (tree : Option Data) → IdPart id part → IsTree payload tree → slice_index (id_text id ++ payload) 0 ≢ 47
rest_no_slash None part payload tree h p = payload_no_slash payload tree p
rest_no_slash (Some n) part payload tree h p =
    let w = Writes-decimal n part h in digits_no_slash (decimal n) payload w.each w.some

space_step : (space part rest more : List ℕ) (b : Bool) → bytes_eq space (codes "/") ≡ b → SpacePart space part rest → slice_index more 0 ≢ 47
    → SpacePart space (cond b [] (space ++ 44 ∷ [])) more
space_step space part rest more true e h other = inl ((bytes_eq-Decides space (codes "/")).0 e, refl, other)
space_step space part rest more false e (inl h) other = let same = (bytes_eq-Decides space (codes "/")).1 h.0 in absurd (cc (same, e))
space_step space part rest more false e (inr h) other = inr (h.0, inl refl)

Plain-parts : (h : Header) (t u : List ℕ) → HasParts h t → HasPayload h → Plain h u → HasParts h u
unfolding Plain
Plain-parts h t u s p plain = record {
  count = count_text h.kind h.count;
  space = space_text h.space;
  id = id_text h.id;
  whole = plain;
  counted = plain_count (is_binary h.kind) h.count s.count s.counted;
  named = space_step h.space s.space (s.id ++ h.payload) (id_text h.id ++ h.payload) (bytes_eq h.space (codes "/")) refl s.named
      (rest_no_slash h.id s.id h.payload p.0 s.numbered p.1);
  numbered = plain_id h.id s.id s.numbered;
  no_digit = s.no_digit;
}

pub Sio-Plain : (h : Header) (t u : List ℕ) → Sio h t → Plain h u → Sio h u
unfolding Sio
Sio-Plain h t u s plain = (Plain-parts h t u s.0 s.1 plain, s.1)

-- a header has one plain text
pub Plain-once : (h : Header) (t u : List ℕ) → Plain h t → Plain h u → t ≡ u
unfolding Plain
Plain-once h t u x y = x ∙ sym y

-- ---- what the crates above may ask of a header that some text spells

pub Sio-payload : (h : Header) (t : List ℕ) → Sio h t → HasPayload h
unfolding Sio
Sio-payload h t s = s.1

few_counted : (b : Bool) (n : ℕ) (part : List ℕ) → CountIs b n part → n ≤ 32
few_counted true n part h = h.2
few_counted false n part h = let none = h.1 in omega (arith, none)

pub Sio-count_few : (h : Header) (t : List ℕ) → Sio h t → h.count ≤ 32
unfolding Sio
Sio-count_few h t s = few_counted (is_binary h.kind) h.count s.0.count s.0.counted

none_counted : (b : Bool) (n : ℕ) (part : List ℕ) → b ≡ false → CountIs b n part → n ≡ 0
none_counted true n part e h = absurd cc
none_counted false n part e h = h.1

-- a packet of another type has no attachments
pub Sio-no_count : (h : Header) (t : List ℕ) → Sio h t → is_binary h.kind ≡ false → h.count ≡ 0
unfolding Sio
Sio-no_count h t s e = none_counted (is_binary h.kind) h.count s.0.count e s.0.counted
