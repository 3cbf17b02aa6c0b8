-- Frames for a WebSocket, as plain data.
use Rattle.std.specs.Prelude.{Bool, List, [], ◌∷◌, ◌++◌, map, codes, if◌then◌else◌}
use Rattle.std.specs.List.{flat_map}
use Rattle.terms.specs.declared.entry.Entry.{Entry}
use Rattle.events.specs.declared.event.WsFrame.{WsFrame}
use Rattle.events.specs.declared.event.WsFrame.TheVariants as frame

-- the frames in order, and whether more waits behind them
pub record PlainFrames : Type 0 where
  pub list : List WsFrame
  pub more : Bool

-- the frames of an entry: its text as a message, and then its attachments
abbrev pub frames_of : Entry → List WsFrame
frames_of entry = frame.Text (codes "4" ++ entry.text) ∷ map frame.Bytes entry.attachments

-- a ping where one is due, and then the frames of the entries
abbrev pub frames_taken : (ping : Bool) → List Entry → List WsFrame
frames_taken ping entries = (if ping then frame.Text (codes "2") ∷ [] else []) ++ flat_map frames_of entries
