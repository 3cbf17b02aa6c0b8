use Rattle.std.proofs.Common.{◌∷◌, ◌++◌, codes, map, take}
use Rattle.events.specs.declared.event.WsFrame.TheVariants.{Bytes, Text}
use Rattle.peers.specs.FrameSocket.{Sent}
use Rattle.peers.specs.Sent.{bytes_of}
use Rattle.peers.proofs.socket_peer.send_entry.Given as goal

-- the text and the attachments so far were sent
abbrev pub invariant-loop-attachment : goal.invariant-loop-attachment
invariant-loop-attachment g l =
    Sent g.S.Write.contents (bytes_of (Text (codes "4" ++ l.entry.text) ∷ map Bytes (take l.attachment-index l.attachment-items))) l.fn.socket l.socket
