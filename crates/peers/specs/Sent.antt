-- What messages add to a WebSocket's output (RFC 6455, section 5.2).
use Rattle.std.specs.Prelude.{ℕ, List, None}
use Rattle.std.specs.List.{flat_map}
use Rattle.websocket.specs.Connection.{whole_header}
use Rattle.websocket.specs.Frame.{encode_frame}
use Rattle.websocket.specs.declared.protocol.frame.coding.OpCode.{OpCode}
use Rattle.websocket.specs.declared.protocol.frame.coding.OpCode.TheVariants.{Data}
use Rattle.websocket.specs.declared.protocol.frame.coding.Data.TheVariants as kind
use Rattle.events.specs.declared.event.WsFrame.{WsFrame}
use Rattle.events.specs.declared.event.WsFrame.TheVariants as frame

abbrev pub opcode_of : WsFrame → OpCode
opcode_of (frame.Text t) = Data kind.Text
opcode_of (frame.Bytes b) = Data kind.Binary

abbrev pub payload_of : WsFrame → List ℕ
payload_of (frame.Text t) = t
payload_of (frame.Bytes b) = b

-- a server's message is one frame, which has no mask
abbrev pub frame_bytes : WsFrame → List ℕ
frame_bytes sent = encode_frame (whole_header (opcode_of sent) None) (payload_of sent)

-- one frame after another
abbrev pub bytes_of : List WsFrame → List ℕ
bytes_of frames = flat_map frame_bytes frames
