-- A client's frames, cut into packets (Socket.IO protocol 5, "Packet encoding").
use Rattle.std.specs.Prelude.{◌≡◌, ◌≢◌, ◌⊎◌, ◌<◌, ◌+◌, ◌-◌, ◌++◌, ℕ, Bool, false, List, [], ◌∷◌, length, map, min, nat_lt, sum_by, Option, Some, None}
use Rattle.std.specs.Option.{option_to_list}
use Rattle.sio_wire.specs.declared.assembler.SioPacket.{SioPacket}
use Rattle.sio_wire.specs.declared.assembler.Progress.{Progress}
use Rattle.sio_wire.specs.declared.assembler.Progress.TheVariants.{Ready, Waiting, Failed}
use Rattle.sio_wire.specs.declared.error.SioError.{SioError}
use Rattle.sio_wire.specs.declared.error.SioError.TheVariants.{Memory, TextAwaitingBinary, BinaryUnawaited}
use Rattle.sio_wire.specs.Header.{Sio}
use Rattle.sio_wire.specs.Faults.{HasFault}

-- what a client sends: a text, or bytes
pub data Frame : Type 0 where
  text : List ℕ → Frame
  binary : List ℕ → Frame

-- the frames are a text that spells the packet's header, and then its attachments
pub record BeginsPacket (frames : List Frame) (packet : SioPacket) : Type 0 where
  pub header_text : List ℕ
  pub spells : Sio packet.header header_text
  pub frames_are : frames ≡ text header_text ∷ map binary packet.attachments

-- the frames of a whole packet: as many attachments as its header counts
pub record IsGroup (frames : List Frame) (packet : SioPacket) : Type 0 where
  pub begins : BeginsPacket frames packet
  pub whole : length packet.attachments ≡ packet.header.count

-- the frames of a packet with too few attachments
pub record IsUnfinished (frames : List Frame) (packet : SioPacket) : Type 0 where
  pub begins : BeginsPacket frames packet
  pub too_few : length packet.attachments < packet.header.count

-- the frames, cut in order, are a group for each packet, and then the rest
unfoldable pub Groups : List Frame → List SioPacket → List Frame → Type 0
Groups frames [] rest = frames ≡ rest
Groups frames (packet ∷ packets) rest = (group : List Frame) × (more : List Frame)
    × (frames ≡ group ++ more) × IsGroup group packet × Groups more packets rest

-- the rest is what the assembler has kept: nothing, or the frames of its unfinished packet
abbrev pub Keeps : Progress → List Frame → Type 0
Keeps Ready rest = rest ≡ []
Keeps (Waiting packet) rest = IsUnfinished rest packet
Keeps (Failed error) rest = ⊥

-- an assembler that has accepted these frames and has given these packets
pub record Accepted (progress : Progress) (frames : List Frame) (packets : List SioPacket)
    : Type 0 where
  pub rest : List Frame
  pub groups : Groups frames packets rest
  pub keeps : Keeps progress rest

-- whatever was accepted before, one more frame is accepted, and gives this packet or none
abbrev pub Accepts : Progress → Frame → Option SioPacket → Progress → Type 0
Accepts old frame given new =
    (frames : List Frame) (packets : List SioPacket) → Accepted old frames packets
    → Accepted new (frames ++ frame ∷ []) (packets ++ option_to_list given)

-- a packet is given where it is whole; else the assembler waits for the rest of it
abbrev pub GivesOrKeeps : SioPacket → Option SioPacket → Progress → Type 0
GivesOrKeeps packet (Some given) new =
    (given ≡ packet) × (length packet.attachments ≡ packet.header.count) × (new ≡ Ready)
GivesOrKeeps packet None new =
    (length packet.attachments < packet.header.count) × (new ≡ Waiting packet)

-- why each text is refused, whatever it spells
abbrev pub text_refusal : Progress → Option SioError
text_refusal Ready = None
text_refusal (Waiting packet) = Some TextAwaitingBinary
text_refusal (Failed error) = Some error

-- the error that a text is refused for: that of any text, or else its own first fault
abbrev pub RefusesText : Progress → List ℕ → SioError → Type 0
RefusesText old t error =
    (text_refusal old ≡ Some error) ⊎ ((text_refusal old ≡ None) × HasFault t error)

-- why each binary frame is refused
abbrev pub binary_refusal : Progress → Option SioError
binary_refusal Ready = Some BinaryUnawaited
binary_refusal (Waiting packet) = None
binary_refusal (Failed error) = Some error

-- how many binary frames are awaited: what the rest lacks
abbrev pub awaited : Progress → ℕ
awaited Ready = 0
awaited (Waiting packet) = packet.header.count - length packet.attachments
awaited (Failed error) = 0

-- how many bytes the attachments have that came of the packet that isn't whole, up to the greatest usize
abbrev pub held : Progress → ℕ
held (Waiting packet) = min (sum_by (λ attachment. length attachment) packet.attachments) 18446744073709551615
held _ = 0

-- so many bytes more, with those of the attachments that came so far, are over the limit; only
-- where attachments are awaited
abbrev pub exceeds : Progress → (limit : ℕ) → (more : ℕ) → Bool
exceeds (Waiting packet) limit more =
    nat_lt limit (sum_by (λ attachment. length attachment) packet.attachments + more)
exceeds _ limit more = false

-- an unfinished packet lacks attachments, and want of memory is no failure
abbrev pub IsProgress : Progress → Type 0
IsProgress Ready = Unit {0}
IsProgress (Waiting packet) = length packet.attachments < packet.header.count
IsProgress (Failed error) = error ≢ Memory
