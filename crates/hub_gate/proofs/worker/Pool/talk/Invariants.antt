use Rattle.std.proofs.Common.{◌≡◌, List, length, None, true}
use Rattle.std.specs.List.{FoldsTo}
use Rattle.std.specs.Prelude.{IfSome}
use Rattle.std.specs.Sync.Mutex.{mutex_guard_value}
use Rattle.hub_gate.specs.Facts.{IsReady}
use Rattle.hub_gate.specs.Turns.{Turn, Serves, desk, last_client, all_heard}
use Rattle.hub_gate.proofs.worker.Pool.talk.Given as goal

abbrev pub invariant-turns : goal.invariant-turns
invariant-turns g l = record {
  served : List Turn;
  talks : FoldsTo (Serves g.P.Peer.gives g.P.Peer.hears (g.A.App.policy l.self.app.now)) (l.fn.peer, desk l.fn.pass (g.I.IdSource.stream l.fn.ids)) served (l.peer, desk l.pass (g.I.IdSource.stream l.ids));
  count : length served ≡ l.counter;
  heard : all_heard served ≡ true;
  lost_is : l.lost ≡ last_client None served;
  ready : IfSome l.held (λ lent. IsReady (mutex_guard_value lent) l.pass);
}
