use Rattle.std.proofs.Common.{◌≡◌, List, length, map, min}
use Rattle.std.specs.Iterator.{Yields}
use Rattle.std.specs.List.{FoldsTo}
use Rattle.hub_gate.specs.Turns.{Desk, Handled, ServesAll, desk, failures}
use Rattle.hub_gate.proofs.Growth.{Grows}
use Rattle.hub_gate.proofs.worker.run_worker.Given as goal

abbrev pub invariant-peers : goal.invariant-peers
invariant-peers g l = record {
  grows : Grows l.fn.pass l.pass;
  handled : List (Handled _);
  given : Yields g.S.PeerSource.next_gives l.fn.peers (map (λ h. h.given) handled) l.peers;
  served : FoldsTo (λ (d : Desk) (h : Handled _) (e : Desk). ServesAll g.P.Peer.gives g.P.Peer.hears (g.A.App.policy l.pool.app.now) l.pool.turns (h.given, d) h.failed (h.left, e)) (desk l.fn.pass (g.I.IdSource.stream l.fn.ids)) handled (desk l.pass (g.I.IdSource.stream l.ids));
  peers_is : l.served ≡ min (length handled) 18446744073709551615;
  faults_is : l.faults ≡ min (failures handled) 18446744073709551615;
}
