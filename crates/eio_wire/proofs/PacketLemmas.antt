-- A packet has one text, and a text is that of at most one packet.
use Rattle.std.proofs.Common.{◌≡◌, ◌≢◌, ℕ, List, [], ◌∷◌, Contains, ◌⊎◌, inl, inr, sym, ◌∙◌, refl, arith}
use Rattle.std.proofs.lemmas.List.Elements.{All-cons, Contains-append_right}
use Rattle.std.specs.Prelude.{if◌then◌else◌, ◌==◌}
use Rattle.std.specs.Result.{result_unwrap_or}
use Rattle.base64.specs.Engines.{standard}
use Rattle.base64.specs.GeneralPurpose.{decode_of}
use Rattle.eio_wire.specs.Base64.{base64_text}
use Rattle.eio_wire.specs.Packet.{Eio}
use Rattle.eio_wire.specs.Payload.{HasSeparator, IsWhole}
use Rattle.eio_wire.specs.declared.packet.Packet.{Packet}
use Rattle.eio_wire.specs.declared.packet.Packet.TheVariants.{Open, Close, Ping, Pong, Message, Binary, Upgrade, Noop}
use Rattle.eio_wire.proofs.Base64Lemmas.{decode_of-base64_text, whole-base64_text}

-- the bytes of a base64 text
unfoldable bytes_of : List ℕ → List ℕ
bytes_of text = result_unwrap_or (decode_of standard text) []

-- the packet of a type and what follows it
abbrev packet_at : ℕ → List ℕ → Packet
packet_at kind rest =
    if kind == 48 then Open rest else if kind == 49 then Close rest else if kind == 50 then Ping rest
    else if kind == 51 then Pong rest else if kind == 52 then Message rest else if kind == 53 then Upgrade rest
    else if kind == 54 then Noop rest else Binary (bytes_of rest)

-- the packet that a text can be of
abbrev packet_of : List ℕ → Packet
packet_of [] = Noop []
packet_of (kind ∷ rest) = packet_at kind rest

packet_of-Eio : (p : Packet) (t : List ℕ) → Eio p t → packet_of t ≡ p
unfolding bytes_of
packet_of-Eio (Open a) t h = rw h
packet_of-Eio (Close a) t h = rw h
packet_of-Eio (Ping a) t h = rw h
packet_of-Eio (Pong a) t h = rw h
packet_of-Eio (Message a) t h = rw h
packet_of-Eio (Binary a) t h = rw (h.1, decode_of-base64_text (base64_text a) a h.0 refl)
packet_of-Eio (Upgrade a) t h = rw h
packet_of-Eio (Noop a) t h = rw h

pub Eio-once : (p q : Packet) (t : List ℕ) → Eio p t → Eio q t → p ≡ q
Eio-once p q t h k = sym (packet_of-Eio p t h) ∙ packet_of-Eio q t k

pub Eio-text : (p : Packet) (t u : List ℕ) → Eio p t → Eio p u → t ≡ u
Eio-text (Open a) t u h k = h ∙ sym k
Eio-text (Close a) t u h k = h ∙ sym k
Eio-text (Ping a) t u h k = h ∙ sym k
Eio-text (Pong a) t u h k = h ∙ sym k
Eio-text (Message a) t u h k = h ∙ sym k
Eio-text (Binary a) t u h k = h.1 ∙ sym k.1
Eio-text (Upgrade a) t u h k = h ∙ sym k
Eio-text (Noop a) t u h k = h ∙ sym k

-- a type before data without a separator
pub whole_typed : (kind : ℕ) (rest text : List ℕ) → kind ≢ 30 → IsWhole rest → text ≡ kind ∷ rest → IsWhole text
whole_typed kind rest text other whole is = rw is (All-cons (λ byte. byte ≢ 30) kind rest other whole)

-- a `b` before base64
pub whole_binary : (bytes text : List ℕ) → text ≡ 98 ∷ base64_text bytes → IsWhole text
whole_binary bytes text is = whole_typed 98 (base64_text bytes) text (λ e. absurd (omega arith)) (whole-base64_text bytes) is

-- a separator in the data of a packet that isn't binary stands in its text
pub holds_separator : (p : Packet) (rest : List ℕ) → (text : List ℕ) → (kind : ℕ) → text ≡ kind ∷ rest → Eio p text → Contains rest 30 → HasSeparator p
holds_separator p rest text kind is h held = (text, h, rw is (Contains-append_right (kind ∷ []) rest 30 held))

pub data_separator : (p : Packet) (rest : List ℕ)
    → (p ≡ Open rest) ⊎ ((p ≡ Close rest) ⊎ ((p ≡ Ping rest) ⊎ ((p ≡ Pong rest) ⊎ ((p ≡ Message rest) ⊎ ((p ≡ Upgrade rest) ⊎ (p ≡ Noop rest))))))
    → Contains rest 30 → HasSeparator p
data_separator p rest (inl is) held = rw is (holds_separator (Open rest) rest (48 ∷ rest) 48 refl refl held)
data_separator p rest (inr (inl is)) held = rw is (holds_separator (Close rest) rest (49 ∷ rest) 49 refl refl held)
data_separator p rest (inr (inr (inl is))) held = rw is (holds_separator (Ping rest) rest (50 ∷ rest) 50 refl refl held)
data_separator p rest (inr (inr (inr (inl is)))) held = rw is (holds_separator (Pong rest) rest (51 ∷ rest) 51 refl refl held)
data_separator p rest (inr (inr (inr (inr (inl is))))) held = rw is (holds_separator (Message rest) rest (52 ∷ rest) 52 refl refl held)
data_separator p rest (inr (inr (inr (inr (inr (inl is)))))) held = rw is (holds_separator (Upgrade rest) rest (53 ∷ rest) 53 refl refl held)
data_separator p rest (inr (inr (inr (inr (inr (inr is)))))) held = rw is (holds_separator (Noop rest) rest (54 ∷ rest) 54 refl refl held)
