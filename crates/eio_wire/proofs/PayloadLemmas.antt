-- A joined text is cut in one way: its pieces are the texts that were joined.
use Rattle.std.proofs.Common.{◌≡◌, ◌≢◌, ◌⊎◌, ℕ, suc, ◌+◌, ◌<◌, List, [], ◌∷◌, ◌++◌, All, Contains, Bool, true, false, cond, Bor, map, take, drop, get_or, length, sym, ◌∙◌, ap, ap₂, subst, refl, arith, eqb, inl, inr, append_assoc, add-one}
use Rattle.std.specs.Prelude.{if◌then◌else◌, ◌==◌}
use Rattle.std.proofs.Math.Seq.{split_at}
use Rattle.std.proofs.lemmas.Bool.{ne_eqb, eqb-false, eqb-true}
use Rattle.std.proofs.lemmas.List.{take_more, map-append}
use Rattle.std.proofs.lemmas.List.Folds.{Any-from_list_any, list_any_at}
use Rattle.std.proofs.lemmas.List.Elements.{All-cons, All-nil, All-head, All-tail, All-weaker, All-push, All-contains}
use Rattle.std.proofs.lemmas.List.Splits.{slice_split_none, slice_split_at, length-slice_split, join_with_byte-slice_split}
use Rattle.std.specs.List.{list_any, AllZip, join_with_byte, onto_first}
use Rattle.eio_wire.specs.declared.packet.Packet.{Packet}
use Rattle.eio_wire.specs.declared.error.WireError.{WireError}
use Rattle.eio_wire.specs.declared.error.WireError.TheVariants.{Memory, BadType, BadBase64, Separator}
use Rattle.eio_wire.specs.declared.packet.Packet.TheVariants.{Open, Close, Ping, Pong, Message, Binary, Upgrade, Noop}
use Rattle.eio_wire.specs.Packet.{Eio, IsNoPacket, IsTextFault, fault_of}
use Rattle.eio_wire.specs.Payload.{HasFault, HasSeparator, HasWholeData, IsPacket, IsRefused, IsWhole, Payload, pieces}
use Rattle.eio_wire.proofs.PacketLemmas.{Eio-once, Eio-text, whole_binary, whole_typed}

abbrev is_separator : ℕ → Bool
is_separator byte = eqb byte 30

abbrev Other : ℕ → Type 0
Other byte = byte ≢ 30

-- ---- the pieces of a text, and joined texts

whole_first : (x : ℕ) (ps : List (List ℕ)) → x ≢ 30 → All IsWhole ps → All IsWhole (onto_first x ps)
whole_first x [] h each = All-cons IsWhole (x ∷ []) [] (All-cons Other x [] h (All-nil Other)) (All-nil IsWhole)
whole_first x (part ∷ parts) h each =
    All-cons IsWhole (x ∷ part) parts (All-cons Other x part h (All-head IsWhole part parts each)) (All-tail IsWhole part parts each)

whole_step : (x : ℕ) (ps : List (List ℕ)) (b : Bool) → is_separator x ≡ b → All IsWhole ps → All IsWhole (cond b ([] ∷ ps) (onto_first x ps))
whole_step x ps true h each = All-cons IsWhole [] ps (All-nil Other) each
whole_step x ps false h each = whole_first x ps (eqb-false x 30 h) each

-- no piece holds a separator
whole_pieces : (t : List ℕ) → All IsWhole (pieces t)
whole_pieces [] = All-cons IsWhole [] [] (All-nil Other) (All-nil IsWhole)
whole_pieces (x ∷ xs) = whole_step x (pieces xs) (is_separator x) refl (whole_pieces xs)

none_passes : (t : List ℕ) → IsWhole t → All (λ byte. is_separator byte ≡ false) t
none_passes t whole = All-weaker Other (λ byte. is_separator byte ≡ false) (λ byte other. ne_eqb byte 30 other) t whole

-- the pieces of texts that were joined are these texts
pieces-join : (x : List ℕ) (xs : List (List ℕ)) → All IsWhole (x ∷ xs) → pieces (join_with_byte 30 (x ∷ xs)) ≡ x ∷ xs
pieces-join x [] each = slice_split_none is_separator x (none_passes x (All-head IsWhole x [] each))
pieces-join x (y ∷ ys) each =
    slice_split_at is_separator x 30 (join_with_byte 30 (y ∷ ys)) (none_passes x (All-head IsWhole x (y ∷ ys) each)) refl
    ∙ ap (λ r. x ∷ r) (pieces-join y ys (All-tail IsWhole x (y ∷ ys) each))

join-snoc : (x : List ℕ) (xs : List (List ℕ)) (y : List ℕ) → join_with_byte 30 ((x ∷ xs) ++ y ∷ []) ≡ join_with_byte 30 (x ∷ xs) ++ 30 ∷ y
join-snoc x [] y = refl
join-snoc x (z ∷ zs) y = ap (λ r. x ++ 30 ∷ r) (join-snoc z zs y) ∙ sym (append_assoc x (30 ∷ join_with_byte 30 (z ∷ zs)) (30 ∷ y))

-- ---- packets and their texts, place by place

AllZip-snoc : (ps : List Packet) (ts : List (List ℕ)) (p : Packet) (t : List ℕ) → AllZip Eio ps ts → Eio p t → AllZip Eio (ps ++ p ∷ []) (ts ++ t ∷ [])
AllZip-snoc [] [] p t each h = (h, tt)
AllZip-snoc [] (u ∷ ts) p t each h = absurd each
AllZip-snoc (q ∷ ps) [] p t each h = absurd each
AllZip-snoc (q ∷ ps) (u ∷ ts) p t each h = (each.0, AllZip-snoc ps ts p t each.1 h)

packet_each : (ps : List Packet) (ts : List (List ℕ)) → AllZip Eio ps ts → All IsPacket ts
packet_each [] [] each = All-nil IsPacket
packet_each [] (t ∷ ts) each = absurd each
packet_each (p ∷ ps) [] each = absurd each
packet_each (p ∷ ps) (t ∷ ts) each = All-cons IsPacket t ts (p, each.0) (packet_each ps ts each.1)

-- where the packets' texts are whole, each packet's text is
whole_each : (ps : List Packet) (ts : List (List ℕ)) → AllZip Eio ps ts → All IsWhole ts → All (λ p. (u : List ℕ) → Eio p u → IsWhole u) ps
whole_each [] [] each whole = All-nil (λ p. (u : List ℕ) → Eio p u → IsWhole u)
whole_each [] (t ∷ ts) each whole = absurd each
whole_each (p ∷ ps) [] each whole = absurd each
whole_each (p ∷ ps) (t ∷ ts) each whole =
    All-cons (λ p. (u : List ℕ) → Eio p u → IsWhole u) p ps
    (λ u h. rw (Eio-text p u t h each.0) (All-head IsWhole t ts whole))
    (whole_each ps ts each.1 (All-tail IsWhole t ts whole))

length-AllZip : (ps : List Packet) (ts : List (List ℕ)) → AllZip Eio ps ts → length ps ≡ length ts
length-AllZip [] [] each = refl
length-AllZip [] (t ∷ ts) each = absurd each
length-AllZip (p ∷ ps) [] each = absurd each
length-AllZip (p ∷ ps) (t ∷ ts) each = ap suc (length-AllZip ps ts each.1)

packets_once : (ps qs : List Packet) (ts : List (List ℕ)) → AllZip Eio ps ts → AllZip Eio qs ts → ps ≡ qs
packets_once [] [] ts a b = refl
packets_once [] (q ∷ qs) [] a b = absurd b
packets_once [] (q ∷ qs) (t ∷ ts) a b = absurd a
packets_once (p ∷ ps) [] [] a b = absurd a
packets_once (p ∷ ps) [] (t ∷ ts) a b = absurd b
packets_once (p ∷ ps) (q ∷ qs) [] a b = absurd a
packets_once (p ∷ ps) (q ∷ qs) (t ∷ ts) a b = ap₂ (λ x xs. x ∷ xs) (Eio-once p q t a.0 b.0) (packets_once ps qs ts a.1 b.1)

texts_once : (ps : List Packet) (ts us : List (List ℕ)) → AllZip Eio ps ts → AllZip Eio ps us → ts ≡ us
texts_once [] [] [] a b = refl
texts_once [] [] (u ∷ us) a b = absurd b
texts_once [] (t ∷ ts) us a b = absurd a
texts_once (p ∷ ps) [] us a b = absurd a
texts_once (p ∷ ps) (t ∷ ts) [] a b = absurd b
texts_once (p ∷ ps) (t ∷ ts) (u ∷ us) a b = ap₂ (λ x xs. x ∷ xs) (Eio-text p t u a.0 b.0) (texts_once ps ts us a.1 b.1)

-- ---- payloads

-- packets whose texts are the pieces of a text have it as their payload
pub Payload-pieces : (ps : List Packet) (t : List ℕ) → AllZip Eio ps (pieces t) → Payload ps t
unfolding Payload
Payload-pieces ps t each = (
  omega (arith, length-AllZip ps (pieces t) each, length-slice_split is_separator t),
  pieces t,
  each,
  whole_pieces t,
  sym (join_with_byte-slice_split 30 t),
)

-- the packets of a payload have its pieces as texts
pub pieces-Payload : (ps : List Packet) (t : List ℕ) → Payload ps t → AllZip Eio ps (pieces t)
unfolding Payload
pieces-Payload [] t h = absurd (omega (arith, h.0))
pieces-Payload (p ∷ ps) t h = split_first p ps h.1 h.2 h.3 t h.4 where
  split_first : (p : Packet) (ps : List Packet) (texts : List (List ℕ)) → AllZip Eio (p ∷ ps) texts → All IsWhole texts → (t : List ℕ) → t ≡ join_with_byte 30 texts → AllZip Eio (p ∷ ps) (pieces t)
  split_first p ps [] each whole t is = absurd each
  split_first p ps (x ∷ xs) each whole t is = rw (is, pieces-join x xs whole) each

pub Payload-once : (ps qs : List Packet) (t : List ℕ) → Payload ps t → Payload qs t → ps ≡ qs
Payload-once ps qs t a b = packets_once ps qs (pieces t) (pieces-Payload ps t a) (pieces-Payload qs t b)

pub Payload-text : (ps : List Packet) (t u : List ℕ) → Payload ps t → Payload ps u → t ≡ u
unfolding Payload
Payload-text ps t u a b = a.4 ∙ (ap (join_with_byte 30) (texts_once ps a.1 b.1 a.2 b.2) ∙ sym b.4)

-- the payload of one packet
pub Payload-one : (p : Packet) (t : List ℕ) → Eio p t → IsWhole t → Payload (p ∷ []) t
unfolding Payload
Payload-one p t h whole = (omega arith, t ∷ [], (h, tt), All-cons IsWhole t [] whole (All-nil IsWhole), refl)

-- the payload of one packet more
pub Payload-snoc : (ps : List Packet) (t : List ℕ) (p : Packet) (u : List ℕ) → Payload ps t → Eio p u → IsWhole u → Payload (ps ++ p ∷ []) (t ++ 30 ∷ u)
unfolding Payload
Payload-snoc [] t p u h is whole = absurd (omega (arith, h.0))
Payload-snoc (q ∷ ps) t p u h is whole = (
  omega arith,
  h.1 ++ u ∷ [],
  AllZip-snoc (q ∷ ps) h.1 p u h.2 is,
  All-push IsWhole h.1 u h.3 whole,
  joined h.1 h.2 h.4,
) where
  joined : (texts : List (List ℕ)) → AllZip Eio (q ∷ ps) texts → t ≡ join_with_byte 30 texts → t ++ 30 ∷ u ≡ join_with_byte 30 (texts ++ u ∷ [])
  joined [] each is = absurd each
  joined (x ∷ xs) each is = rw is (sym (join-snoc x xs u))

-- ---- faults

first_fault : (f g : List (List ℕ)) (p q : List ℕ) (b c : List (List ℕ)) → f ++ p ∷ b ≡ g ++ q ∷ c
    → All IsPacket f → All IsPacket g → IsNoPacket p → IsNoPacket q → p ≡ q
first_fault [] [] p q b c e fs gs np nq = cc
first_fault [] (y ∷ g) p q b c e fs gs np nq =
    let same : y ≡ p = cc in
    let is = All-head IsPacket y g gs in
    absurd (np is.0 (rw (← same) is.1))
first_fault (x ∷ f) [] p q b c e fs gs np nq =
    let same : x ≡ q = cc in
    let is = All-head IsPacket x f fs in
    absurd (nq is.0 (rw (← same) is.1))
first_fault (x ∷ f) (y ∷ g) p q b c e fs gs np nq =
    let tails : f ++ p ∷ b ≡ g ++ q ∷ c = cc in
    first_fault f g p q b c tails (All-tail IsPacket x f fs) (All-tail IsPacket y g gs) np nq

pub HasFault-once : (t : List ℕ) (e f : WireError) → HasFault t e → HasFault t f → e ≡ f
unfolding HasFault
HasFault-once t e f a b =
    let same = first_fault a.0 b.0 a.1 b.1 a.2 b.2 (sym a.3 ∙ b.3) a.4 b.4 a.5 b.5 in
    a.6 ∙ (ap fault_of same ∙ sym b.6)

packet_there : (ps : List Packet) (f : List (List ℕ)) (t : List ℕ) (b : List (List ℕ)) → AllZip Eio ps (f ++ t ∷ b) → IsPacket t
packet_there [] [] t b each = absurd each
packet_there [] (x ∷ f) t b each = absurd each
packet_there (p ∷ ps) [] t b each = (p, each.0)
packet_there (p ∷ ps) (x ∷ f) t b each = packet_there ps f t b each.1

pub no_fault : (ps : List Packet) (t : List ℕ) (e : WireError) → Payload ps t → HasFault t e → ⊥
unfolding HasFault
no_fault ps t e h a =
    let there = packet_there ps a.0 a.1 a.2 (rw (← a.3) (pieces-Payload ps t h)) in
    a.5 there.0 there.1

pub no_refusal : (ps : List Packet) (t : List ℕ) (e : WireError) → Payload ps t → IsRefused ps e → ⊥
unfolding Payload
no_refusal ps t e h (inl none) = absurd (omega (arith, h.0, ap length none.0))
no_refusal ps t e h (inr held) =
    let any = held.0 in
    let whole = All-contains (λ p. (u : List ℕ) → Eio p u → IsWhole u) ps any.1 (whole_each ps h.1 h.2 h.3) (any.0, any.2, any.3) in
    All-contains Other any.4.0 30 (whole any.4.0 any.4.1) any.4.2 refl

-- what a text's fault can be
pub fault_of-kind : (t : List ℕ) → IsTextFault (fault_of t)
fault_of-kind [] = tt
fault_of-kind (kind ∷ rest) = elim (kind == 98) as (λ b. IsTextFault (if b then BadBase64 else BadType)) [ true ↦ tt | false ↦ tt ]

pub HasFault-kind : (t : List ℕ) (e : WireError) → HasFault t e → IsTextFault e
unfolding HasFault
HasFault-kind t e h = rw h.6 (fault_of-kind h.1)

-- where a packet's data is whole, its text is
whole_data : (p : Packet) (t : List ℕ) → HasWholeData p → Eio p t → IsWhole t
whole_data (Open rest) t whole h = whole_typed 48 rest t (λ e. absurd (omega arith)) whole h
whole_data (Close rest) t whole h = whole_typed 49 rest t (λ e. absurd (omega arith)) whole h
whole_data (Ping rest) t whole h = whole_typed 50 rest t (λ e. absurd (omega arith)) whole h
whole_data (Pong rest) t whole h = whole_typed 51 rest t (λ e. absurd (omega arith)) whole h
whole_data (Message rest) t whole h = whole_typed 52 rest t (λ e. absurd (omega arith)) whole h
whole_data (Binary bytes) t whole h = whole_binary bytes t h.1
whole_data (Upgrade rest) t whole h = whole_typed 53 rest t (λ e. absurd (omega arith)) whole h
whole_data (Noop rest) t whole h = whole_typed 54 rest t (λ e. absurd (omega arith)) whole h

pub whole_data_written : (ps : List Packet) (e : WireError) → 0 < length ps → All HasWholeData ps → IsRefused ps e → ⊥
whole_data_written ps e some whole (inl none) = absurd (omega (arith, some, ap length none.0))
whole_data_written ps e some whole (inr held) =
    let any = held.0 in
    let each = All-contains HasWholeData ps any.1 whole (any.0, any.2, any.3) in
    All-contains Other any.4.0 30 (whole_data any.1 any.4.0 each any.4.1) any.4.2 refl

-- ---- one turn of the readers' and the writers' loops

-- a piece more was read
pub one_more : (ps : List Packet) (p : Packet) (xs : List (Bor (List ℕ))) (x : Bor (List ℕ)) → AllZip Eio ps (map (λ piece. piece.now) xs)
    → Eio p x.now → AllZip Eio (ps ++ p ∷ []) (map (λ piece. piece.now) (xs ++ x ∷ []))
one_more ps p xs x each is = rw map-append (AllZip-snoc ps (map (λ piece. piece.now) xs) p x.now each is)

-- the piece after those that were read is no packet's text
pub fault_here : (ps : List Packet) (front : List (List ℕ)) (n : ℕ) (piece t : List ℕ) (e : WireError) → AllZip Eio ps front → front ≡ take n (pieces t)
    → n < length (pieces t) → piece ≡ get_or (pieces t) n piece → (e ≡ Memory) ⊎ (IsNoPacket piece × (e ≡ fault_of piece)) → (e ≡ Memory) ⊎ HasFault t e
unfolding HasFault
fault_here ps front n piece t e each read h there (inl memory) = inl memory
fault_here ps front n piece t e each read h there (inr fault) = inr (
  front,
  piece,
  drop (suc n) (pieces t),
  split_at (pieces t) n piece h ∙ ap₂ (λ f x. f ++ x ∷ drop (suc n) (pieces t)) (sym read) (sym there),
  packet_each ps front each,
  fault.0,
  fault.1,
)

-- the payload of the first packet
pub payload_first : (packets : List Packet) (first : Packet) (rest : List Packet) (t u : List ℕ) → packets ≡ first ∷ rest → t ≡ [] ++ u
    → Eio first u → IsWhole u → Payload (take (0 + 1) packets) t
payload_first packets first rest t u are adds is whole = rw (are, adds) (Payload-one first u is whole)

-- the payload of a packet more, which follows the first one and i others
pub payload_more : (packets : List Packet) (first : Packet) (rest : List Packet) (i : ℕ) (packet : Packet) (t u new : List ℕ) → packets ≡ first ∷ rest → i < length rest
    → packet ≡ get_or rest i packet → Payload (take (i + 1) packets) t → Eio packet u → IsWhole u → new ≡ (t ++ 30 ∷ []) ++ u → Payload (take (i + 1 + 1) packets) new
payload_more packets first rest i packet t u new are h there each is whole adds =
    let front : take (i + 1) packets ≡ first ∷ take i rest = rw (are, add-one i) in
    let next : take (i + 1 + 1) packets ≡ (first ∷ take i rest) ++ packet ∷ [] =
    rw (are, add-one (i + 1)) (ap (λ r. first ∷ r) (take_more rest i packet h ∙ ap (λ p. take i rest ++ p ∷ []) (sym there))) in
    rw (next, adds, append_assoc t (30 ∷ []) u) (Payload-snoc (first ∷ take i rest) t packet u (rw (← front) each) is whole)

-- a packet with a separator, which follows the first one and i others
pub refused_there : (packets : List Packet) (first : Packet) (rest : List Packet) (i : ℕ) (packet : Packet) (e : WireError) → packets ≡ first ∷ rest → i < length rest
    → packet ≡ get_or rest i packet → (e ≡ Memory) ⊎ (HasSeparator packet × (e ≡ Separator)) → (e ≡ Memory) ⊎ IsRefused packets e
refused_there packets first rest i packet e are h there (inl memory) = inl memory
refused_there packets first rest i packet e are h there (inr held) =
    let within : suc i < length packets = rw are (omega arith) in
    let at : get_or packets (suc i) packet ≡ packet = rw are (sym there) in
    inr (inr ((suc i, packet, within, at, held.0), held.1))

-- a search for the separator
pub held_separator : (items : List ℕ) → list_any is_separator items ≡ true → Contains items 30
held_separator items found =
    let any = Any-from_list_any is_separator items found in
    let is : any.1 ≡ 30 = eqb-true any.1 30 any.4 in
    (any.0, any.2, subst (λ x. get_or items any.0 x ≡ x) is any.3)

pub no_separator : (items : List ℕ) → list_any is_separator items ≡ false → IsWhole items
no_separator items none k d within is =
    let found : list_any is_separator items ≡ true = list_any_at is_separator items k d within (ap is_separator is) in
    cc (none, found)
