use Rattle.std.proofs.Common.{◌∙◌, ap, sym, subst, length, map, min, arith}
use Rattle.std.proofs.lemmas.List.{length-map}
use Rattle.std.specs.List.{FoldsTo}
use Rattle.hub_totals.specs.Pass.{PlainPass}
use Rattle.hub_gate.specs.Turns.{Desk, Handled, ServesAll, desk}
use Rattle.hub_gate.proofs.PoolLemmas.{drained, is_new}
use Rattle.hub_gate.proofs.serve.work.Goals as goal

pub returns : goal.returns
returns g c =
    let said = c.run_worker-pass.ensures in
    let job = c.args.job in
    let given = drained job.queue (map (λ (h : Handled _). h.given) said.work.handled) said.work.given in
    let end = desk c.run_worker-pass.result.0 (g.I.IdSource.stream c.run_worker-pass.new.ids) in
    record {
      handled = said.work.handled;
      end = end;
      given = given;
      served = subst (λ (p : PlainPass). FoldsTo (λ (d : Desk) (h : Handled _) (e : Desk). ServesAll g.P.Peer.gives g.P.Peer.hears (g.A.App.policy c.args.pool.now.app.now) c.args.pool.now.turns (h.given, d) h.failed (h.left, e)) (desk p (g.I.IdSource.stream job.ids)) said.work.handled end)
          (is_new job.pass job.nothing.0 job.nothing.1 job.nothing.2) said.work.served;
      commands = omega (arith, said.commands, job.nothing.0);
      taken = omega (arith, said.taken, job.nothing.1);
      peers_are = said.work.peers_is ∙ ap (λ n. min n 18446744073709551615) (sym (length-map said.work.handled (λ (h : Handled _). h.given)) ∙ ap length given);
      faults_are = said.work.faults_is;
    }
