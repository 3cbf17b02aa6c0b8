use Rattle.std.proofs.Common.{◌≡◌, [], ◌∷◌, ◌++◌, Result, Ok, Err, is_ok, is_err, None, true, false, arith, refl, inl, inr, length-append, sym, ◌∙◌}
use Rattle.std.proofs.lemmas.Fn.{FoldsTo-push}
use Rattle.hub_gate.specs.Turns.{Turn, Serves}
use Rattle.std.specs.Sync.Mutex.{mutex_guard_value}
use Rattle.hub_gate.specs.Facts.{IsReady}
use Rattle.hub_gate.proofs.TurnLemmas.{last_client-push, all_heard-push, kept_as}
use Rattle.hub_gate.proofs.worker.Pool.talk.Goals as goal

heard : {A E : Type 0} (reply : Result A E) → is_err reply ≡ false → true ≡ is_ok reply
heard (Ok a) is = refl
heard (Err e) is = absurd (cc (is))

unheard : {A E : Type 0} (reply : Result A E) → is_err reply ≡ true → false ≡ is_ok reply
unheard (Ok a) is = absurd (cc (is))
unheard (Err e) is = refl

pub turns-init : goal.turns-init
turns-init g c = record { served = []; talks = refl; count = refl; heard = refl; lost_is = refl; ready = tt }

pub turns-preserved : goal.turns-preserved
turns-preserved g c =
    let before = c.turns.invariant in
    let r : Turn = record { event = c.in-Some.event; now = c.in-Some.now; before = c.apply-done.result.before.value; got = c.apply-done.result.got; after = c.apply-done.result.after.value; heard = true } in
    let gave = rw c.in-Some.is at c.in-Ok.ensures in
    record {
      served = before.served ++ r ∷ [];
      talks = FoldsTo-push (Serves g.P.Peer.gives g.P.Peer.hears (g.A.App.policy c.args.self.now.app.now)) _ before.served _ r _ before.talks (record {
        asking = c.next.new.self;
        gave = gave;
        applied = rw c.enter-lent.ensures.same at c.apply-done.ensures.applied;
        reply = c.hear.result;
        heard_is = heard c.hear.result (sym c.is_err.ensures.value ∙ c.if-is_err.false);
        told = c.hear.ensures;
      });
      count = omega (arith, length-append before.served (r ∷ []), before.count);
      heard = all_heard-push before.served r before.heard refl;
      lost_is = c.lost_after-lost.ensures ∙ sym (last_client-push None before.served r);
      ready = kept_as (λ lent. IsReady (mutex_guard_value lent) c.apply-done.new.pass) c.leave-held.result c.apply-done.new.lent c.leave-held.ensures
          (rw (c.apply-done.ensures.after) (c.apply-done.ensures.applied.sound_after, c.apply-done.ensures.applied.at_least_after));
    }

pub returns-in_default : goal.returns-in_default
returns-in_default g c =
    let before = c.turns.invariant in
    record {
      served = before.served;
      last = c.turns.peer;
      talks = before.talks;
      within = omega (arith, before.count);
      ends = inl (before.heard, c.in_default.field-0, c.in_default.ensures);
      lost_is = before.lost_is;
    }

pub returns-in_default-given : goal.returns-in_default-given
returns-in_default-given g c =
    let before = c.turns.invariant in
    record {
      served = before.served;
      last = c.turns.peer;
      talks = before.talks;
      within = omega (arith, before.count);
      ends = (before.heard, rw c.in_default-given.is at c.in-Ok.ensures);
      lost_is = before.lost_is;
    }

pub returns-then-is_err : goal.returns-then-is_err
returns-then-is_err g c =
    let before = c.turns.invariant in
    let r : Turn = record { event = c.in-Some.event; now = c.in-Some.now; before = c.apply-done.result.before.value; got = c.apply-done.result.got; after = c.apply-done.result.after.value; heard = false } in
    let gave = rw c.in-Some.is at c.in-Ok.ensures in
    record {
      served = before.served ++ r ∷ [];
      last = c.hear.new.self;
      talks = FoldsTo-push (Serves g.P.Peer.gives g.P.Peer.hears (g.A.App.policy c.args.self.now.app.now)) _ before.served _ r _ before.talks (record {
        asking = c.next.new.self;
        gave = gave;
        applied = rw c.enter-lent.ensures.same at c.apply-done.ensures.applied;
        reply = c.hear.result;
        heard_is = unheard c.hear.result (sym c.is_err.ensures.value ∙ c.if-is_err.true);
        told = c.hear.ensures;
      });
      within = omega (arith, length-append before.served (r ∷ []), before.count);
      ends = inr (refl, inl (before.served, r, refl, before.heard, refl));
      lost_is = c.lost_after-lost.ensures ∙ sym (last_client-push None before.served r);
    }

pub returns : goal.returns
returns g c =
    let before = c.turns.invariant in
    record {
      served = before.served;
      last = c.turns.peer;
      talks = before.talks;
      within = omega (arith, before.count);
      ends = inr (refl, inr (before.heard, omega (arith, before.count)));
      lost_is = before.lost_is;
    }
