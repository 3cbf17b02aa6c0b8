-- Which event a line of a script stands for.
use Rattle.std.specs.Prelude.{◌≡◌, ◌≢◌, ℕ, List, Option, None, Some}
use Rattle.terms.specs.Bytes.{IsBytes}
use Rattle.hex.specs.Hex.{encode_lower}
use Rattle.connection.specs.declared.clock.Transport.{Transport}
use Rattle.connection.specs.declared.clock.Transport.TheVariants.{Socket}
use Rattle.events.specs.declared.event.Event.{Event}
use Rattle.events.specs.declared.event.Event.TheVariants as event
use Rattle.events.specs.declared.event.WsFrame.TheVariants as frame
use Rattle.script.specs.declared.script_line.Notice.{Notice}
use Rattle.script.specs.declared.script_line.Notice.TheVariants as notice
use Rattle.script.specs.declared.script_line.ScriptLine.{ScriptLine}
use Rattle.script.specs.declared.script_line.ScriptLine.TheVariants as line

-- what happens to the client where a line says this of it
abbrev pub notice_of : Notice → (client : ℕ) → Event
notice_of notice.Get client = event.PollBegin client
notice_of notice.Unget client = event.PollEnd client
notice_of notice.Probe client = event.Probe client
notice_of notice.Upgrade client = event.Upgraded client
notice_of notice.Unprobe client = event.ProbeLost client
notice_of notice.Lost client = event.TransportLost client
notice_of notice.Tick client = event.Tick client

-- frames are taken by a client that speaks over a WebSocket, and a payload by any other
abbrev pub take_of : Option Transport → (client most : ℕ) → Event
take_of (Some Socket) client most = event.FrameTake client most
take_of _ client most = event.PollTake client most

-- these digits spell the bytes of this binary frame, or no bytes
abbrev pub IsByteFrame : (hex : List ℕ) → (client : ℕ) → Option Event → Type 0
IsByteFrame hex client None = (bytes : List ℕ) → IsBytes bytes → hex ≢ encode_lower bytes
IsByteFrame hex client (Some happens) =
    (bytes : List ℕ) × IsBytes bytes × (hex ≡ encode_lower bytes) × (happens ≡ event.Frame client (frame.Bytes bytes))

-- what happens where a line speaks of this client, which speaks so
abbrev pub IsEventOf : ScriptLine → (client : ℕ) → Option Transport → Option Event → Type 0
IsEventOf (line.Text name rest) client on happens = happens ≡ Some (event.Post client rest.now)
IsEventOf (line.Frame name rest) client on happens = happens ≡ Some (event.Frame client (frame.Text rest.now))
IsEventOf (line.Bytes name hex) client on happens = IsByteFrame hex.now client happens
IsEventOf (line.Notice word name) client on happens = happens ≡ Some (notice_of word client)
IsEventOf (line.Take name most) client on happens = happens ≡ Some (take_of on client most)
IsEventOf _ client on happens = happens ≡ None
