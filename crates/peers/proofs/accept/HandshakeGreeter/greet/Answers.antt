use Rattle.peers.proofs.AcceptedLemmas.{kept}
use Rattle.peers.proofs.accept.HandshakeGreeter.greet.Goals as goal

pub returns : goal.returns
returns g c = rw c.ok.ensures.value (kept _ _ c.handshake.result (λ f gave. gave.1.0) c.handshake.ensures)
