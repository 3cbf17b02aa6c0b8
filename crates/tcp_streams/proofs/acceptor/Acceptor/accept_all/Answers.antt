use Rattle.std.proofs.Common.{◌≡◌, ◌∙◌, sym, false}
use Rattle.loop_rules.specs.Dealings.{is_over}
use Rattle.tcp_streams.proofs.AcceptorLemmas.{deals_more}
use Rattle.tcp_streams.proofs.acceptor.Acceptor.accept_all.Goals as goal
use Rattle.tcp_streams.proofs.acceptor.Acceptor.accept_all.Goals.{in-Ok, in-Err}

pub loop-preserved : goal.loop-preserved
loop-preserved g c =
    let some_left : is_over c.loop.self.dealing.left ≡ false = sym c.is_over.ensures ∙ c.if-is_over.false in
    elim c.match-accept.branch [
      | in-Ok w ↦ rw w.self-is (deals_more _ _ _ c.loop.invariant some_left w.give.ensures)
      | in-Err w ↦ rw (w.self-is, w.wait.ensures.dealing) c.loop.invariant
    ]
