-- The packets that an assembler gives hold no U+001E in their namespaces and payloads.
use Rattle.std.proofs.Common.{◌≡◌, ◌≢◌, ℕ, Bool, true, false, ◌||◌, List, [], ◌∷◌, ◌++◌, refl, sym, ◌∙◌, ap, subst, Option, None, Some, Result, Ok, Err, inl, inr, nat_lt, IfOk, IfSome}
use Rattle.std.specs.Prelude.{Contains, codes}
use Rattle.std.specs.List.{list_any}
use Rattle.std.proofs.lemmas.List.Elements.{All-nil, All-cons, All-weaker, All-contains_itself}
use Rattle.eio_wire.specs.Payload.{IsWhole}
use Rattle.sio_wire.specs.declared.assembler.SioPacket.{SioPacket}
use Rattle.sio_wire.specs.declared.header.Header.{Header}
use Rattle.sio_wire.specs.declared.assembler.Progress.{Progress}
use Rattle.sio_wire.specs.declared.error.SioError.{SioError}
use Rattle.sio_wire.specs.Header.{Sio, SpacePart, is_control}
use Rattle.sio_wire.specs.Shape.{HasPayload}
use Rattle.sio_wire.specs.Frames.{Frame, text, binary, Groups, IsGroup, Accepts, text_refusal, binary_refusal}
use Rattle.connection.specs.History.{frames}
use Rattle.connection.specs.Line.{PlainLine, HasHistory, IsWholeIfGiven}
use Rattle.connection.proofs.LineLemmas.{WorksOn, packets-taken, text-works, bytes-work}

-- ---- a header

no-control : (xs : List ℕ) → list_any is_control xs ≡ false → IsWhole xs
no-control [] e = All-nil (λ b. b ≢ 30)
no-control (b ∷ bs) e = on (nat_lt b 32) refl e (no-control bs)
  where
    on : (t : Bool) → nat_lt b 32 ≡ t → (t || list_any is_control bs) ≡ false → (list_any is_control bs ≡ false → IsWhole bs) → IsWhole (b ∷ bs)
    on true is none rest = absurd (cc none)
    on false is none rest = All-cons (λ b. b ≢ 30) b bs (λ same. let f : false ≡ true = sym is ∙ ap (λ x. nat_lt x 32) same in absurd (cc f)) (rest none)

space-whole : (space part rest : List ℕ) → SpacePart space part rest → IsWhole space
space-whole space part rest (inl plain) = subst IsWhole (sym (plain.0)) (no-control (codes "/") refl)
space-whole space part rest (inr named) = no-control space named.0.no_control

payload-whole : (h : Header) → HasPayload h → IsWhole h.payload
payload-whole h (None, empty, shape, unreserved, placed) = subst IsWhole (sym empty) (All-nil (λ b. b ≢ 30))
payload-whole h (Some v, is, shape, unreserved, placed) = All-weaker (Contains h.payload) (λ b. b ≢ 30) (λ b inside same. is.0 (subst (Contains h.payload) same inside)) h.payload (All-contains_itself h.payload)

header-whole : (h : Header) (t : List ℕ) → Sio h t → IsWhole h.space × IsWhole h.payload
unfolding Sio
header-whole h t (parts, allowed) = (space-whole h.space parts.space _ parts.named, payload-whole h allowed)

-- ---- what is given

last-group : (all : List Frame) (packets : List SioPacket) (packet : SioPacket) (rest : List Frame) → Groups all (packets ++ packet ∷ []) rest → (group : List Frame) × IsGroup group packet
unfolding Groups
last-group all [] packet rest (group, more, same, is, others) = (group, is)
last-group all (first ∷ packets) packet rest (group, more, same, is, others) = last-group more packets packet rest others

given-whole : (l : PlainLine) (frame : Frame) (given : Option SioPacket) (next : Progress) → HasHistory l → WorksOn l.assembler → Accepts l.assembler frame given next → IsWholeIfGiven given
given-whole l frame None next was works accepts = tt
given-whole l frame (Some packet) next was works accepts =
    let before = packets-taken l.assembler (frames was.calls) works was.leads.taken in
    let after = accepts (frames was.calls) before.0 before.1 in
    let found = last-group (frames was.calls ++ frame ∷ []) before.0 packet after.rest after.groups in
    header-whole packet.header found.1.begins.header_text found.1.begins.spells

module _ (l : PlainLine) (next : Progress) (X : SioError → Type 0) where
  pub text-whole : (t : List ℕ) (result : Result (Option SioPacket) SioError) → HasHistory l → IfSome (text_refusal l.assembler) (λ error. (result ≡ Err error) × X error)
      → IfOk result (λ given. Accepts l.assembler (text t) given next) → IfOk result IsWholeIfGiven
  text-whole t (Ok given) was refused accepts = given-whole l (text t) given next was (text-works l next X (Ok given) refused given refl) accepts
  text-whole t (Err e) was refused accepts = tt

  pub bytes-whole : (t : List ℕ) (result : Result (Option SioPacket) SioError) → HasHistory l → IfSome (binary_refusal l.assembler) (λ error. (result ≡ Err error) × X error)
      → IfOk result (λ given. Accepts l.assembler (binary t) given next) → IfOk result IsWholeIfGiven
  bytes-whole t (Ok given) was refused accepts = given-whole l (binary t) given next was (bytes-work l next X (Ok given) refused given refl) accepts
  bytes-whole t (Err e) was refused accepts = tt
