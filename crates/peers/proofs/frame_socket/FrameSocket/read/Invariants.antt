use Rattle.std.proofs.Common.{List, ℕ}
use Rattle.peers.specs.Incoming.{HasRead}
use Rattle.peers.proofs.frame_socket.FrameSocket.read.Given as goal

-- bytes came, of which no frame is whole so far
abbrev pub invariant-loop : goal.invariant-loop
invariant-loop g l = (got : List ℕ) × HasRead g.S.Read.remaining got l.fn.self l.self
