-- A CONNECT that an assembler gives is spelled by the text that came last.
use Rattle.std.proofs.Common.{◌≡◌, ℕ, ◌+◌, List, [], ◌∷◌, ◌++◌, length, map, drop, Option, Some, None, refl, sym, ◌∙◌, ap, subst, arith, append_assoc}
use Rattle.std.proofs.lemmas.List.{length-map}
use Rattle.std.proofs.Math.Seq.{drop-append_seam}
use Rattle.sio_wire.specs.declared.assembler.SioPacket.{SioPacket}
use Rattle.sio_wire.specs.declared.assembler.Progress.{Progress}
use Rattle.sio_wire.specs.declared.assembler.Progress.TheVariants.{Ready, Waiting, Failed}
use Rattle.sio_wire.specs.declared.error.SioError.{SioError}
use Rattle.sio_wire.specs.declared.header.Kind.{Kind}
use Rattle.sio_wire.specs.declared.header.Kind.TheVariants.{Connect}
use Rattle.sio_wire.specs.declared.header.Header.{Header}
use Rattle.sio_wire.specs.Header.{Sio, CountPart}
use Rattle.sio_wire.specs.Frames.{Frame, text, binary, BeginsPacket, Groups, IsGroup, Keeps, Accepted, Accepts}
use Rattle.sio_wire.proofs.HeaderLemmas.{Sio-once}
use Rattle.connection.specs.History.{Framed, FrameRefused, Call, frames, failure, IsLegal, clock_calls, book_calls, is_getting, is_ping_due}
use Rattle.connection.specs.Line.{PlainLine, HasHistory, HasTaken, Advances}
use Rattle.epochs.specs.LetIn.{IsConnect}

-- ---- frames

-- the frames of a packet are one more than its attachments
group-length : (group : List Frame) (p : SioPacket) → BeginsPacket group p → length group ≡ 1 + length p.attachments
group-length group p begins = let long = ap length begins.frames_are in let parts = length-map p.attachments binary in omega (arith, long, parts)

same-rest : (a b more rest : List Frame) → length a ≡ length b → a ++ more ≡ b ++ rest → more ≡ rest
same-rest a b more rest long same =
    sym (drop-append_seam a more) ∙ ap (drop (length a)) same ∙ ap (λ n. drop n (b ++ rest)) long ∙ drop-append_seam b rest

-- where one frame more makes one packet more, what was kept with that frame begins with the packet's frames
last-group : (before rest : List Frame) (packets : List SioPacket) (frame : Frame) (p : SioPacket) (left : List Frame) → Groups before packets rest
    → Groups (before ++ frame ∷ []) (packets ++ p ∷ []) left → (group : List Frame) × (more : List Frame) × (rest ++ frame ∷ [] ≡ group ++ more) × IsGroup group p
unfolding Groups
last-group before rest [] frame p left a b = (b.0, b.1, ap (λ fs. fs ++ frame ∷ []) (sym a) ∙ b.2, b.3)
last-group before rest (q ∷ qs) frame p left a b =
    let long : length a.0 ≡ length b.0 = group-length a.0 q a.3.begins ∙ sym (group-length b.0 q b.3.begins) in
    let same : a.1 ++ frame ∷ [] ≡ b.1 = same-rest a.0 b.0 (a.1 ++ frame ∷ []) b.1 long (sym (append_assoc a.0 a.1 (frame ∷ [])) ∙ ap (λ fs. fs ++ frame ∷ []) (sym a.2) ∙ b.2) in
    last-group a.1 rest qs frame p left a.4 (subst (λ (fs : List Frame). Groups fs (qs ++ p ∷ []) left) (sym same) b.4)

-- a CONNECT has no attachments
no-attachments : (h : Header) (t : List ℕ) → Sio h t → h.kind ≡ Connect → h.count ≡ 0
unfolding Sio
no-attachments h t spells is = (subst (λ (k : Kind). CountPart k h.count spells.0.count) is spells.0.counted).1

-- a packet without attachments that a frame makes whole is spelled by this frame
spelled : (old : Progress) (rest group more : List Frame) (frame : Frame) (p : SioPacket) → Keeps old rest → rest ++ frame ∷ [] ≡ group ++ more → IsGroup group p → p.header.count ≡ 0
    → (t : List ℕ) × (frame ≡ text t) × Sio p.header t
spelled Ready rest group more frame p kept same whole none =
    let one : frame ∷ [] ≡ text whole.begins.header_text ∷ (map binary p.attachments ++ more) = ap (λ fs. fs ++ frame ∷ []) (sym kept) ∙ same ∙ ap (λ fs. fs ++ more) whole.begins.frames_are in
    (whole.begins.header_text, cc one, whole.begins.spells)
spelled (Waiting q) rest group more frame p kept same whole none =
    let both : text kept.begins.header_text ∷ (map binary q.attachments ++ frame ∷ []) ≡ text whole.begins.header_text ∷ (map binary p.attachments ++ more) =
    ap (λ fs. fs ++ frame ∷ []) (sym kept.begins.frames_are) ∙ same ∙ ap (λ fs. fs ++ more) whole.begins.frames_are in
    let texts : kept.begins.header_text ≡ whole.begins.header_text = cc both in
    let headers : q.header ≡ p.header = Sio-once q.header p.header whole.begins.header_text (subst (Sio q.header) texts kept.begins.spells) whole.begins.spells in
    let count : q.header.count ≡ 0 = ap (λ (h : Header). h.count) headers ∙ none in
    let few = kept.too_few in
    absurd (omega (arith, count, few))
spelled (Failed e) rest group more frame p kept same whole none = absurd kept

given-spelled : (old new : Progress) (before : List Frame) (packets : List SioPacket) (frame : Frame) (p : SioPacket) → Accepted old before packets → Accepts old frame (Some p) new → p.header.kind ≡ Connect
    → (t : List ℕ) × (frame ≡ text t) × Sio p.header t
given-spelled old new before packets frame p was accepts is =
    let now = accepts before packets was in
    let (group, more, same, whole) = last-group before was.rest packets frame p now.rest was.groups now.groups in
    spelled old was.rest group more frame p was.keeps same whole (no-attachments p.header whole.begins.header_text whole.begins.spells is)

-- ---- a line

-- a line that takes a frame has not failed
has-accepted : (progress : Progress) (o : List Frame) → HasTaken progress o → ((e : SioError) → progress ≡ Failed e → ⊥) → (packets : List SioPacket) × Accepted progress o packets
has-accepted Ready o taken sound = taken
has-accepted (Waiting q) o taken sound = taken
has-accepted (Failed e) o taken sound = absurd (sound e refl)

sound-line : (old new : PlainLine) (frame : Frame) → HasHistory old → Advances old (Framed frame ∷ []) new → (e : SioError) → old.assembler ≡ Failed e → ⊥
unfolding IsLegal
sound-line old new frame was advances e is =
    let none : failure was.calls ≡ None = (advances was.opening was.calls was.leads).legal.0 in
    let some : Some e ≡ failure was.calls = subst (λ (progress : Progress). elim progress as (λ (progress : Progress). Option SioError) [ Failed error ↦ Some error | _ ↦ None ] ≡ failure was.calls) is was.leads.failed in
    absurd (cc (some ∙ none))

-- a frame that makes a CONNECT whole is a text that spells it
pub line-spelled : (old new : PlainLine) (frame : Frame) (p : SioPacket) → HasHistory old → Accepts old.assembler frame (Some p) new.assembler → Advances old (Framed frame ∷ []) new
    → p.header.kind ≡ Connect → (t : List ℕ) × (frame ≡ text t) × IsConnect p.header.space p.header.payload t
line-spelled old new frame p was accepts advances is =
    let (packets, taken) = has-accepted old.assembler (frames was.calls) was.leads.taken (sound-line old new frame was advances) in
    let (t, same, spells) = given-spelled old.assembler new.assembler (frames was.calls) packets frame p taken accepts is in
    let none = no-attachments p.header t spells is in
    (t, same, (p.header.id, subst (λ (h : Header). Sio h t) (λ i. record p.header { kind = is i; count = none i }) spells))

-- ---- histories of lines

-- calls more
pub advanced : (old new : PlainLine) (calls : List Call) → Advances old calls new → HasHistory old → HasHistory new
advanced old new calls advances was = record { opening = was.opening; calls = calls ++ was.calls; leads = advances was.opening was.calls was.leads }

-- a frame that is refused
pub refused-line : (e : SioError) (line : PlainLine) → HasHistory line → HasHistory (record line { assembler = Failed e })
unfolding frames failure IsLegal clock_calls book_calls is_getting is_ping_due
refused-line e line was = record {
  opening = was.opening;
  calls = FrameRefused e ∷ was.calls;
  leads = record { legal = was.leads.legal; taken = tt; failed = refl; clock = was.leads.clock; getting = was.leads.getting; ping = was.leads.ping; books = was.leads.books };
}
