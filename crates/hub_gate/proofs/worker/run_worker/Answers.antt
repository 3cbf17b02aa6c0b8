use Rattle.std.proofs.Common.{arith, refl, [], ◌∷◌, ◌++◌, map, length-append, sym, subst, true, false}
use Rattle.std.specs.Iterator.{Yields}
use Rattle.std.proofs.lemmas.Fn.{FoldsTo-push}
use Rattle.std.proofs.lemmas.List.{map-append}
use Rattle.hub_gate.specs.Turns.{Desk, Handled, ServesAll, desk}
use Rattle.hub_gate.proofs.Growth.{grows_self, grows_trans, serves_grow}
use Rattle.hub_gate.proofs.TurnLemmas.{failures-push, yields-push}
use Rattle.hub_gate.proofs.worker.run_worker.Goals as goal
use Rattle.hub_gate.proofs.worker.run_worker.Goals.{then-serve_peer, else-serve_peer}

pub peers-init : goal.peers-init
peers-init g c = record { grows = grows_self _; handled = []; given = refl; served = refl; peers_is = refl; faults_is = refl }

pub peers-preserved : goal.peers-preserved
peers-preserved g c =
    let before = c.peers.invariant in
    let h : Handled _ = record { given = c.in-Some-next_peer.peer; failed = c.serve_peer.result; left = c.serve_peer.new.peer } in
    record {
      grows = grows_trans _ _ _ before.grows (serves_grow c.serve_peer.ensures);
      handled = before.handled ++ h ∷ [];
      given = subst (λ xs. Yields g.S.PeerSource.next_gives c.args.peers.now xs c.next_peer.new.self) (sym (map-append (λ x. x.given) before.handled (h ∷ []))) (yields-push g.S.PeerSource.next_gives _ (map (λ x. x.given) before.handled) _ c.in-Some-next_peer.peer _ before.given c.in-Some-next_peer.ensures);
      served = FoldsTo-push (λ (d : Desk) (k : Handled _) (e : Desk). ServesAll g.P.Peer.gives g.P.Peer.hears (g.A.App.policy c.args.pool.now.app.now) c.args.pool.now.turns (k.given, d) k.failed (k.left, e))
          (desk c.args.pass (g.I.IdSource.stream c.args.ids.now)) before.handled (desk c.peers.pass (g.I.IdSource.stream c.peers.ids)) h (desk c.serve_peer.new.pass (g.I.IdSource.stream c.serve_peer.new.ids)) before.served c.serve_peer.ensures;
      peers_is = omega (arith, length-append before.handled (h ∷ []), before.peers_is);
      faults_is = elim c.if-serve_peer.branch [
        | then-serve_peer w ↦ omega (arith, failures-push before.handled h true w.if-serve_peer.true, before.faults_is)
        | else-serve_peer w ↦ omega (arith, failures-push before.handled h false w.if-serve_peer.false, before.faults_is)
      ];
    }
