use Rattle.std.proofs.Common.{rules, ◌≡◌, false}
use Rattle.peers.specs.Rounds.{reads}
use Rattle.peers.proofs.StageLemmas.{not_reading}
use Rattle.peers.proofs.socket_peer.SocketPeerPeer.next.Goals as goal
use Rattle.peers.proofs.socket_peer.SocketPeerPeer.next.Goals.{in-Reads, in_default}

pub returns-in-Some : goal.returns-in-Some
returns-in-Some g c = elim c.match-self.branch [
  | in-Reads w ↦ search rules
  | in_default w ↦
      let isnt : reads c.self.inside.stage ≡ false = not_reading c.self.inside.stage w.in_default.not-Reads in
      search rules
]
