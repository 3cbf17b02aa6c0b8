-- Frames that are accepted one after another.
use Rattle.std.proofs.Common.{◌≡◌, ℕ, List, [], ◌∷◌, ◌++◌, length, map, Option, Some, None, refl, sym, ◌∙◌, ap, arith, append_assoc, append-nil, length-append}
use Rattle.std.specs.Prelude.{false, Result, Ok, Err, OnOk, is_err}
use Rattle.std.proofs.lemmas.List.{map-append, length-map}
use Rattle.sio_wire.specs.declared.assembler.SioPacket.{SioPacket}
use Rattle.sio_wire.specs.declared.assembler.Progress.{Progress}
use Rattle.sio_wire.specs.declared.assembler.Progress.TheVariants.{Ready, Waiting, Failed}
use Rattle.sio_wire.specs.declared.header.Header.{Header}
use Rattle.sio_wire.proofs.HeaderLemmas.{Sio-once}
use Rattle.sio_wire.specs.Frames.{Frame, text, binary, BeginsPacket, Groups, IsGroup, IsUnfinished, Keeps, Accepted, Accepts, GivesOrKeeps}

-- one more frame, which makes the rest a group
Groups-whole : (frames : List Frame) (packets : List SioPacket) (rest : List Frame) (frame : Frame) (packet : SioPacket) → Groups frames packets rest → IsGroup (rest ++ frame ∷ []) packet
    → Groups (frames ++ frame ∷ []) (packets ++ packet ∷ []) []
unfolding Groups
Groups-whole frames [] rest frame packet are whole = (rest ++ frame ∷ [], [], ap (λ fs. fs ++ frame ∷ []) are ∙ sym (append-nil (rest ++ frame ∷ [])), whole, refl)
Groups-whole frames (q ∷ qs) rest frame packet are whole =
    (are.0, are.1 ++ frame ∷ [], ap (λ fs. fs ++ frame ∷ []) are.2 ∙ append_assoc are.0 are.1 (frame ∷ []), are.3, Groups-whole are.1 qs rest frame packet are.4 whole)

-- one more frame, which stays in the rest
Groups-more : (frames : List Frame) (packets : List SioPacket) (rest : List Frame) (frame : Frame) → Groups frames packets rest
    → Groups (frames ++ frame ∷ []) packets (rest ++ frame ∷ [])
unfolding Groups
Groups-more frames [] rest frame are = ap (λ fs. fs ++ frame ∷ []) are
Groups-more frames (q ∷ qs) rest frame are =
    (are.0, are.1 ++ frame ∷ [], ap (λ fs. fs ++ frame ∷ []) are.2 ∙ append_assoc are.0 are.1 (frame ∷ []), are.3, Groups-more are.1 qs rest frame are.4)

-- a frame after which the rest begins this packet
pub Accepts-kept : (old : Progress) (frame : Frame) (packet : SioPacket) (given : Option SioPacket) (new : Progress)
    → ((rest : List Frame) → Keeps old rest → BeginsPacket (rest ++ frame ∷ []) packet) → GivesOrKeeps packet given new → Accepts old frame given new
Accepts-kept old frame packet (Some p) new begins gives frames packets before =
    let group : IsGroup (before.rest ++ frame ∷ []) packet = record { begins = begins before.rest before.keeps; whole = gives.1 } in
    record { rest = []; groups = rw gives.0 (Groups-whole frames packets before.rest frame packet before.groups group); keeps = rw gives.2 refl }
Accepts-kept old frame packet None new begins gives frames packets before =
    let unfinished : IsUnfinished (before.rest ++ frame ∷ []) packet = record { begins = begins before.rest before.keeps; too_few = gives.0 } in
    record { rest = before.rest ++ frame ∷ []; groups = rw append-nil (Groups-more frames packets before.rest frame before.groups); keeps = rw gives.1 unfinished }

-- one more binary frame, one more attachment
pub BeginsPacket-more : (rest : List Frame) (h : Header) (parts more : List (List ℕ)) (bytes : List ℕ) → more ≡ parts ++ bytes ∷ [] → BeginsPacket rest (record { header = h; attachments = parts })
    → BeginsPacket (rest ++ binary bytes ∷ []) (record { header = h; attachments = more })
BeginsPacket-more rest h parts more bytes is begins = record {
  header_text = begins.header_text;
  spells = begins.spells;
  frames_are = rw is (ap (λ fs. fs ++ binary bytes ∷ []) begins.frames_are ∙ ap (λ fs. text begins.header_text ∷ fs) (sym (map-append binary parts (bytes ∷ []))));
}

pub from_OnOk : {T E : Type 0} (P : Type 0) (r : Result T E) → is_err r ≡ false → OnOk r P → P
from_OnOk P (Ok x) ok h = h
from_OnOk P (Err e) ok h = absurd cc

-- ---- frames are cut in one way only

binaries_apart : (parts others : List (List ℕ)) (more rest : List Frame) → length parts ≡ length others → map binary parts ++ more ≡ map binary others ++ rest → (parts ≡ others) × (more ≡ rest)
binaries_apart [] [] more rest long same = (refl, same)
binaries_apart [] (b ∷ others) more rest long same = absurd (omega arith)
binaries_apart (a ∷ parts) [] more rest long same = absurd (omega arith)
binaries_apart (a ∷ parts) (b ∷ others) more rest long same =
    let head : a ≡ b = cc in
    let tail = binaries_apart parts others more rest (omega arith) (let rests : map binary parts ++ more ≡ map binary others ++ rest = cc in rests) in
    (let all : a ∷ parts ≡ b ∷ others = cc (head, tail.0) in all, tail.1)

-- what the frames of two packets say, where both stand in front of the same frames
record SameFront (p q : SioPacket) (more rest : List Frame) : Type 0 where
  header : p.header ≡ q.header
  frames : map binary p.attachments ++ more ≡ map binary q.attachments ++ rest

same_front : (p q : SioPacket) (front other more rest : List Frame) → BeginsPacket front p → BeginsPacket other q → front ++ more ≡ other ++ rest → SameFront p q more rest
same_front p q front other more rest begins starts same =
    let both : text begins.header_text ∷ (map binary p.attachments ++ more) ≡ text starts.header_text ∷ (map binary q.attachments ++ rest) =
    ap (λ fs. fs ++ more) (sym begins.frames_are) ∙ same ∙ ap (λ fs. fs ++ rest) starts.frames_are in
    let texts : begins.header_text ≡ starts.header_text = cc both in
    record { header = Sio-once p.header q.header starts.header_text (rw texts at begins.spells) starts.spells; frames = cc both }

abbrev packet_of : Header → List (List ℕ) → SioPacket
packet_of h parts = record { header = h; attachments = parts }

same_packet : (p q : SioPacket) → p.header ≡ q.header → p.attachments ≡ q.attachments → p ≡ q
same_packet p q header parts = ap (λ h. packet_of h p.attachments) header ∙ ap (packet_of q.header) parts

same_front-whole : (p q : SioPacket) (more rest : List Frame) → SameFront p q more rest → length p.attachments ≡ length q.attachments → (p ≡ q) × (more ≡ rest)
same_front-whole p q more rest front long =
    let apart = binaries_apart p.attachments q.attachments more rest long front.frames in
    (same_packet p q front.header apart.0, apart.1)

-- an unfinished packet's frames are of no other unfinished packet
unfinished-once : (p q : SioPacket) (rest : List Frame) → IsUnfinished rest p → IsUnfinished rest q → p ≡ q
unfinished-once p q rest a b =
    let front = same_front p q rest rest [] [] a.begins b.begins refl in
    let lengths : length p.attachments ≡ length q.attachments =
    omega (arith, simp (append-nil, length-map) at (ap (length {A = Frame}) front.frames)) in
    (same_front-whole p q [] [] front lengths).0

-- the same frames keep the same progress
Keeps-once : (one other : Progress) (rest : List Frame) → Keeps one rest → Keeps other rest → one ≡ other
Keeps-once Ready Ready rest a b = refl
Keeps-once Ready (Waiting q) rest a b = cc (a, b.begins.frames_are)
Keeps-once (Waiting p) Ready rest a b = cc (b, a.begins.frames_are)
Keeps-once (Waiting p) (Waiting q) rest a b = ap Waiting (unfinished-once p q rest a b)
Keeps-once one (Failed e) rest a b = absurd b
Keeps-once (Failed e) other rest a b = absurd a

-- no packet is whole in front of frames that are kept
Keeps-no_group : (progress : Progress) (q : SioPacket) (group more rest : List Frame) → IsGroup group q → Keeps progress rest → rest ≡ group ++ more → ⊥
Keeps-no_group Ready q group more rest whole none same = let begun = ap (λ fs. fs ++ more) whole.begins.frames_are in cc (none, same, begun)
Keeps-no_group (Waiting p) q group more rest whole unfinished same =
    let front = same_front p q rest group [] more unfinished.begins whole.begins (append-nil rest ∙ same) in
    let lengths = simp (append-nil, length-append, length-map) at (ap (length {A = Frame}) front.frames) in
    let counts = ap (λ h. h.count) front.header in
    omega (arith, lengths, counts, unfinished.too_few, whole.whole)
Keeps-no_group (Failed e) q group more rest whole failed same = failed

Groups-once : (packets others : List SioPacket) (frames rest left : List Frame) (one other : Progress) → Groups frames packets rest → Groups frames others left → Keeps one rest → Keeps other left
    → (packets ≡ others) × (one ≡ other)
unfolding Groups
Groups-once [] [] frames rest left one other a b k l = (refl, Keeps-once one other frames (rw a k) (rw b l))
Groups-once [] (q ∷ qs) frames rest left one other a b k l = absurd (Keeps-no_group one q b.0 b.1 rest b.3 k (sym a ∙ b.2))
Groups-once (p ∷ ps) [] frames rest left one other a b k l = absurd (Keeps-no_group other p a.0 a.1 left a.3 l (sym b ∙ a.2))
Groups-once (p ∷ ps) (q ∷ qs) frames rest left one other a b k l =
    let front = same_front p q a.0 b.0 a.1 b.1 a.3.begins b.3.begins (sym a.2 ∙ b.2) in
    let long : length p.attachments ≡ length q.attachments = a.3.whole ∙ (ap (λ h. h.count) front.header ∙ sym b.3.whole) in
    let whole = same_front-whole p q a.1 b.1 front long in
    let others' = Groups-once ps qs a.1 rest left one other a.4 (rw whole.1 b.4) k l in
    (cc (whole.0, others'.0), others'.1)

pub Accepted-once : (frames : List Frame) (packets others : List SioPacket) (one other : Progress) → Accepted one frames packets → Accepted other frames others → (packets ≡ others) × (one ≡ other)
Accepted-once frames packets others one other a b = Groups-once packets others frames a.rest b.rest one other a.groups b.groups a.keeps b.keeps

pub Accepted-none : Accepted Ready [] []
unfolding Groups
Accepted-none = record { rest = []; groups = refl; keeps = refl }
