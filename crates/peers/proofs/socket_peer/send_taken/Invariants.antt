use Rattle.std.proofs.Common.{◌≡◌, [], map, take}
use Rattle.std.specs.Arc.{arc_value}
use Rattle.events.specs.Frames.{frames_taken}
use Rattle.peers.specs.FrameSocket.{Sent}
use Rattle.peers.specs.Sent.{bytes_of}
use Rattle.peers.proofs.socket_peer.send_taken.Given as goal

-- a ping, where one is due, and the entries so far were sent; where there is nothing, nothing was done
abbrev pub invariant-loop-entry : goal.invariant-loop-entry
invariant-loop-entry g l =
    Sent g.S.Write.contents (bytes_of (frames_taken l.ping (map arc_value (take l.entry-index l.entries)))) l.fn.socket l.socket
    × (l.frames.list ≡ [] → l.socket ≡ l.fn.socket)
