use Rattle.std.proofs.Common.{◌≡◌, [], ◌∷◌, ◌++◌, arith, refl, ap, sym, ◌∙◌, length-append}
use Rattle.std.proofs.lemmas.Fn.{FoldsTo-push}
use Rattle.std.proofs.lemmas.List.Elements.{All-nil}
use Rattle.events.specs.declared.event.Event.TheVariants.{TransportLost}
use Rattle.events.specs.declared.loss.Loss.{Loss}
use Rattle.hub_gate.specs.Turns.{Applied, Attempt, Desk}
use Rattle.hub_gate.proofs.LossLemmas.{refused_more, told_again, tries_end}
use Rattle.hub_gate.proofs.worker.Pool.lose.Goals as goal

pub tries-init : goal.tries-init
tries-init g c = record {
  attempts = [];
  told = refl;
  refused = All-nil _;
  client = ap (λ (l : Loss). l.client) c.new-loss.ensures;
  left = omega (arith, ap (λ (l : Loss). l.left) c.new-loss.ensures);
  more = omega (arith, ap (λ (l : Loss). l.left) c.new-loss.ensures);
}

pub tries-preserved : goal.tries-preserved
tries-preserved g c =
    let before = c.tries.invariant in
    let a : Attempt = record { before = c.apply-told.result.before.value; got = c.apply-told.result.got; after = c.apply-told.result.after.value } in
    let event : c.event.result ≡ TransportLost c.args.client = c.event.ensures ∙ ap TransportLost before.client in
    let again = told_again c.tries.loss.left c.apply-told.result.got (sym c.hears.ensures.retry ∙ c.in-Again.is) in
    let left = ap (λ (l : Loss). l.left) c.hears.ensures.told in
    record {
      attempts = before.attempts ++ a ∷ [];
      told = FoldsTo-push (λ (d : Desk) (x : Attempt) (e : Desk). Applied (g.A.App.policy c.args.self.now.app.now) (TransportLost c.args.client) c.args.now x.before d x.got x.after e)
          _ before.attempts _ a _ before.told (rw (event, c.look-lent.ensures.same) at c.apply-told.ensures.applied);
      refused = refused_more before.attempts a before.refused again.0;
      client = ap (λ (l : Loss). l.client) c.hears.ensures.told ∙ before.client;
      left = omega (arith, length-append before.attempts (a ∷ []), before.left, left, again.1);
      more = omega (arith, left, again.1);
    }

pub returns-in-Over : goal.returns-in-Over
returns-in-Over g c =
    let before = c.tries.invariant in
    let a : Attempt = record { before = c.apply-told.result.before.value; got = c.apply-told.result.got; after = c.apply-told.result.after.value } in
    let event : c.event.result ≡ TransportLost c.args.client = c.event.ensures ∙ ap TransportLost before.client in
    record {
      attempts = before.attempts ++ a ∷ [];
      told = FoldsTo-push (λ (d : Desk) (x : Attempt) (e : Desk). Applied (g.A.App.policy c.args.self.now.app.now) (TransportLost c.args.client) c.args.now x.before d x.got x.after e)
          _ before.attempts _ a _ before.told (rw (event, c.look-lent.ensures.same) at c.apply-told.ensures.applied);
      tries = tries_end before.attempts a c.tries.loss.left before.refused before.left before.more (sym c.hears.ensures.retry ∙ c.in-Over.is);
    }
