use Rattle.std.proofs.Common.{◌≡◌, ◌+◌, ◌<◌, List, length, map, true, is_err}
use Rattle.std.specs.List.{All, FoldsTo}
use Rattle.events.specs.declared.event.Event.TheVariants.{TransportLost}
use Rattle.hub_gate.specs.Turns.{Applied, Attempt, Desk, desk}
use Rattle.hub_gate.proofs.worker.Pool.lose.Given as goal

abbrev pub invariant-tries : goal.invariant-tries
invariant-tries g l = record {
  attempts : List Attempt;
  told : FoldsTo (λ (d : Desk) (a : Attempt) (e : Desk). Applied (g.A.App.policy l.self.app.now) (TransportLost l.client) l.now a.before d a.got a.after e) (desk l.fn.pass (g.I.IdSource.stream l.fn.ids)) attempts (desk l.pass (g.I.IdSource.stream l.ids));
  refused : All (λ got. is_err got ≡ true) (map (λ a. a.got) attempts);
  client : l.loss.client ≡ l.client;
  left : l.loss.left + length attempts ≡ 3;
  more : 0 < l.loss.left;
}

abbrev pub decreases-tries : goal.decreases-tries
decreases-tries g l = l.loss.left
