-- Frames that are sent one after another.
use Rattle.std.proofs.Common.{◌≡◌, ℕ, ◌+◌, ◌<◌, Bool, true, false, List, [], ◌∷◌, ◌++◌, map, length, take, get_or, Option, refl, sym, ◌∙◌, ap, subst, append_assoc, append-nil, arith, codes, if◌then◌else◌}
use Rattle.std.specs.List.{flat_map}
use Rattle.std.proofs.lemmas.List.{map_push, take_more}
use Rattle.std.proofs.lemmas.List.Concat.{flat_map-cons}
use Rattle.std.proofs.lemmas.Grind.{flat_map-append}
use Rattle.tungstenite.proofs.SocketLemmas.{appends-chain, appends-nil}
use Rattle.terms.specs.declared.entry.Entry.{Entry}
use Rattle.events.specs.declared.event.WsFrame.{WsFrame}
use Rattle.events.specs.declared.event.WsFrame.TheVariants.{Bytes, Text}
use Rattle.events.specs.Frames.{frames_of, frames_taken}
use Rattle.peers.specs.FrameSocket.{Sent, Socket}
use Rattle.peers.specs.Sent.{bytes_of, frame_bytes}

-- a ping where one is due
abbrev pings : Bool → List WsFrame
pings ping = if ping then Text (codes "2") ∷ [] else []

module _ {S : Type 0} (contents : S → Option (List ℕ)) where
  pub sent-none : (a : Socket S) → Sent contents [] a a
  sent-none a = record { conn = refl; input = refl; out = appends-nil (contents a.stream) }

  pub sent-more : (xs ys : List ℕ) (a b c : Socket S) → Sent contents xs a b → Sent contents ys b c → Sent contents (xs ++ ys) a c
  sent-more xs ys a b c h k =
      record {
        conn = k.conn ∙ h.conn;
        input = k.input ∙ h.input;
        out = appends-chain (contents a.stream) (contents b.stream) (contents c.stream) xs ys h.out k.out;
      }

  sent-as : (xs ys : List ℕ) (a b : Socket S) → xs ≡ ys → Sent contents xs a b → Sent contents ys a b
  sent-as xs ys a b e h = subst (λ zs. Sent contents zs a b) e h

  -- one frame alone
  pub sent-one : (f : WsFrame) (a b : Socket S) → Sent contents (frame_bytes f) a b → Sent contents (bytes_of (f ∷ [])) a b
  sent-one f a b h = sent-as _ _ a b (sym (flat_map-cons frame_bytes f [] ∙ append-nil (frame_bytes f))) h

  -- one attachment more
  pub sent-attachment : (f : WsFrame) (xs : List (List ℕ)) (i : ℕ) (x : List ℕ) (a b c : Socket S) → i < length xs → x ≡ get_or xs i x
      → Sent contents (bytes_of (f ∷ map Bytes (take i xs))) a b → Sent contents (frame_bytes (Bytes x)) b c
      → Sent contents (bytes_of (f ∷ map Bytes (take (i + 1) xs))) a c
  sent-attachment f xs i x a b c within is h k =
      let next = take_more xs i x within ∙ ap (λ y. take i xs ++ y ∷ []) (sym is) in
      let frames = ap (λ ys. f ∷ map Bytes ys) next ∙ ap (λ ys. f ∷ ys) (map_push Bytes (take i xs) x) in
      let bytes = flat_map-append frame_bytes (f ∷ map Bytes (take i xs)) (Bytes x ∷ []) ∙ ap (λ ys. bytes_of (f ∷ map Bytes (take i xs)) ++ ys) (flat_map-cons frame_bytes (Bytes x) [] ∙ append-nil (frame_bytes (Bytes x))) in
      sent-as _ _ a c (sym (ap bytes_of frames ∙ bytes)) (sent-more _ _ a b c h k)

  -- one entry more
  pub sent-entry : {A : Type 0} (value : A → Entry) (ping : Bool) (xs : List A) (i : ℕ) (x : A) (a b c : Socket S) → i < length xs → x ≡ get_or xs i x
      → Sent contents (bytes_of (frames_taken ping (map value (take i xs)))) a b → Sent contents (bytes_of (frames_of (value x))) b c
      → Sent contents (bytes_of (frames_taken ping (map value (take (i + 1) xs)))) a c
  sent-entry value ping xs i x a b c within is h k =
      let next = take_more xs i x within ∙ ap (λ y. take i xs ++ y ∷ []) (sym is) in
      let entries = ap (λ ys. flat_map frames_of (map value ys)) next ∙ ap (λ es. flat_map frames_of es) (map_push value (take i xs) x)
      ∙ flat_map-append frames_of (map value (take i xs)) (value x ∷ []) ∙ ap (λ fs. flat_map frames_of (map value (take i xs)) ++ fs) (flat_map-cons frames_of (value x) [] ∙ append-nil (frames_of (value x))) in
      let frames : frames_taken ping (map value (take (i + 1) xs)) ≡ frames_taken ping (map value (take i xs)) ++ frames_of (value x) =
      ap (λ fs. pings ping ++ fs) entries ∙ sym (append_assoc (pings ping) (flat_map frames_of (map value (take i xs))) (frames_of (value x))) in
      sent-as _ _ a c (sym (ap bytes_of frames ∙ flat_map-append frame_bytes (frames_taken ping (map value (take i xs))) (frames_of (value x)))) (sent-more _ _ a b c h k)

-- an entry has frames
pub some-frames : {A : Type 0} (value : A → Entry) (ping : Bool) (xs : List A) (i : ℕ) → i < length xs → frames_taken ping (map value xs) ≡ [] → ⊥
some-frames value ping [] i within none = absurd (omega (arith, within))
some-frames value true (x ∷ xs) i within none = cc none
some-frames value false (x ∷ xs) i within none = cc (sym (flat_map-cons frames_of (value x) (map value xs)) ∙ none)
