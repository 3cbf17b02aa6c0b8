use Rattle.std.proofs.Common.{Some, refl, rules}
use Rattle.hub_gate.specs.Turns.{desk}
use Rattle.hub_gate.proofs.worker.Pool.serve_peer.Goals as goal
use Rattle.hub_gate.proofs.worker.Pool.serve_peer.Goals.{else-failed-via-else-failed, else-failed-via-then-failed+in-None-1}

pub returns-in-Some : goal.returns-in-Some
returns-in-Some g c = record {
  lost = Some (c.in-Some.client, c.in-Some.now);
  between = desk c.talk-failed.new.pass (g.I.IdSource.stream c.talk-failed.new.ids);
  talk = rw c.in-Some.is at c.talk-failed.ensures;
  told = rw c.if-failed.true c.lose.ensures;
}

pub returns-else-failed : goal.returns-else-failed
returns-else-failed g c = record {
  lost = c.talk-failed.result.1;
  between = desk c.talk-failed.new.pass (g.I.IdSource.stream c.talk-failed.new.ids);
  talk = c.talk-failed.ensures;
  told = elim c.else-failed.branch [
    | else-failed-via-else-failed w ↦ rw w.if-failed.false refl
    | else-failed-via-then-failed+in-None-1 w ↦ rw w.if-failed.true (search rules)
  ];
}
