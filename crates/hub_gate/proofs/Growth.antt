-- A pass that grows over several turns.
use Rattle.std.proofs.Common.{◌≡◌, ℕ, ◌<◌, ◌≤◌, Bool, true, false, Option, None, Some, Result, List, [], ◌∷◌, arith, refl, sym, subst, ◌∙◌}
use Rattle.std.specs.List.{FoldsTo}
use Rattle.hub_totals.proofs.CountingLemmas.{commands-grow, handed_out-grows}
use Rattle.hub_totals.specs.Pass.{PlainHub, PlainPass, AtLeast, commands_of, taken_of}
use Rattle.dispatch.specs.Counting.{TurnsFor}
use Rattle.events.specs.declared.event.Event.{Event}
use Rattle.events.specs.declared.event.Event.TheVariants as event
use Rattle.dispatch.specs.Machine.{IsOf}
use Rattle.events.specs.Answer.{Answer}
use Rattle.dispatch.specs.Holding.{PlainCore}
use Rattle.events.specs.App.{Policy}
use Rattle.events.specs.declared.peer.PeerFault.{PeerFault}
use Rattle.hub_gate.specs.Turns.{Applied, Attempt, Desk, Serves, ServesAll, TellsLost, TellsWhere}

-- a pass that rose, if at all, under the lock: then its numbers are u64s
pub record Grows (old new : PlainPass) : Type 0 where
  pub commands : old.commands ≤ new.commands
  pub commands_fit : old.commands < new.commands → new.commands ≤ 18446744073709551615
  pub taken : old.taken ≤ new.taken
  pub taken_fit : old.taken < new.taken → new.taken ≤ 18446744073709551615
  pub parts : new.parts ≡ old.parts

pub grows_self : (a : PlainPass) → Grows a a
grows_self a = record {
  commands = omega arith;
  commands_fit = λ less. absurd (omega arith);
  taken = omega arith;
  taken_fit = λ less. absurd (omega arith);
  parts = refl;
}

fits : (a b c most : ℕ) → (a < b → b ≤ most) → (b < c → c ≤ most) → b ≤ c → a < c → c ≤ most
fits a b c most p q le less = grind arith

pub grows_trans : (a b c : PlainPass) → Grows a b → Grows b c → Grows a c
grows_trans a b c p q = record {
  commands = omega arith;
  commands_fit = fits a.commands b.commands c.commands 18446744073709551615 p.commands_fit q.commands_fit q.commands;
  taken = omega arith;
  taken_fit = fits a.taken b.taken c.taken 18446744073709551615 p.taken_fit q.taken_fit q.taken;
  parts = q.parts ∙ p.parts;
}

-- the pass rose by as much as the hub's totals, which are u64s
grows_by_event : (c : ℕ) (before after : PlainHub) (old new : PlainPass) → TurnsFor c before after old new → AtLeast before old → AtLeast after new → Grows old new
grows_by_event c before after old new works small great =
    let follows = works.follows in
    let commands_rise : commands_of before ≤ commands_of after = rw (follows.base, follows.journal) (commands-grow before.history.base follows.steps before.history.journal) in
    let taken_rise : taken_of before ≤ taken_of after = rw (follows.base, follows.journal) (handed_out-grows before.history.base follows.steps before.history.journal) in
    record {
      commands = omega (arith, works.rises.commands, commands_rise);
      commands_fit = λ _. omega (arith, great.commands, great.fits.0);
      taken = omega (arith, works.rises.taken, taken_rise);
      taken_fit = λ _. omega (arith, great.taken, great.fits.1);
      parts = works.rises.parts;
    }

-- each event is of some client; a sweep is of each
some_client : (e : Event) (ids : ℕ → ℕ) → (c : ℕ) × IsOf e ids c
some_client (event.Opened socket) ids = (ids 0, refl)
some_client (event.Post c body) ids = (c, refl)
some_client (event.Frame c frame) ids = (c, refl)
some_client (event.PollBegin c) ids = (c, refl)
some_client (event.PollEnd c) ids = (c, refl)
some_client (event.PollTake c most) ids = (c, refl)
some_client (event.FrameTake c most) ids = (c, refl)
some_client (event.Probe c) ids = (c, refl)
some_client (event.Upgraded c) ids = (c, refl)
some_client (event.ProbeLost c) ids = (c, refl)
some_client (event.TransportLost c) ids = (c, refl)
some_client (event.Tick c) ids = (c, refl)
some_client event.Sweep ids = (0, tt)

grows_by_turn : (e : Event) (ids : ℕ → ℕ) (before after : PlainHub) (old new : PlainPass) → ((c : ℕ) → IsOf e ids c → TurnsFor c before after old new)
    → AtLeast before old → AtLeast after new → Grows old new
grows_by_turn e ids before after old new turns small great =
    let some = some_client e ids in
    grows_by_event some.0 before after old new (turns some.0 some.1) small great

-- ---- over many turns

-- where each step makes a pass grow, so does a run of them
folds_grow : {D X : Type 0} (R : D → X → D → Type 0) (pass_of : D → PlainPass) → ((d : D) (x : X) (e : D) → R d x e → Grows (pass_of d) (pass_of e))
    → (old : D) (xs : List X) (new : D) → FoldsTo R old xs new → Grows (pass_of old) (pass_of new)
folds_grow {D} R pass_of each old [] new run = subst (λ (d : D). Grows (pass_of old) (pass_of d)) run (grows_self (pass_of old))
folds_grow R pass_of each old (x ∷ xs) new run =
    grows_trans (pass_of old) (pass_of run.0) (pass_of new) (each old x run.0 run.1) (folds_grow R pass_of each run.0 xs new run.2)

same_grows : (old new : Desk) → new ≡ old → Grows old.pass new.pass
same_grows old new same = subst (λ (d : Desk). Grows old.pass d.pass) (sym same) (grows_self old.pass)

module _ {policy : Policy} where
  applied_grows : (e : Event) (now : ℕ) (before : PlainCore) (old : Desk) (got : Answer) (after : PlainCore) (new : Desk)
      → Applied policy e now before old got after new → Grows old.pass new.pass
  applied_grows e now before old got after new applied =
      grows_by_turn e old.ids before.hub after.hub old.pass new.pass applied.turns applied.at_least_before applied.at_least_after

  told_grows : (client now : ℕ) (old new : Desk) → TellsLost policy client now old new → Grows old.pass new.pass
  told_grows client now old new tells =
      folds_grow (λ (d : Desk) (a : Attempt) (e : Desk). Applied policy (event.TransportLost client) now a.before d a.got a.after e) (λ (d : Desk). d.pass)
      (λ d a e. applied_grows (event.TransportLost client) now a.before d a.got a.after e) old tells.attempts new tells.told

where_grows : (policy : Policy) (failed : Bool) (lost : Option (ℕ × ℕ)) (old new : Desk)
    → TellsWhere policy failed lost old new → Grows old.pass new.pass
where_grows policy false lost old new same = same_grows old new same
where_grows policy true None old new same = same_grows old new same
where_grows policy true (Some lost) old new tells = told_grows {policy = policy} lost.0 lost.1 old new tells

module _ {P : Type 0} {gives : P → Result (Option (Event × ℕ)) PeerFault → P → Type 0} {hears : P → Answer → Result (Unit {0}) PeerFault → P → Type 0}
    {policy : Policy} where
  -- by all that is done for one peer
  pub serves_grow : {turns : ℕ} {old : P × Desk} {failed : Bool} {new : P × Desk}
      → ServesAll gives hears policy turns old failed new → Grows old.1.pass new.1.pass
  serves_grow {turns} {old} {failed} {new} serves =
      let talks = folds_grow (Serves gives hears policy) (λ (d : P × Desk). d.1.pass)
      (λ d r e s. applied_grows r.event r.now r.before d.1 r.got r.after e.1 s.applied) old serves.talk.served (serves.talk.last, serves.between) serves.talk.talks in
      grows_trans old.1.pass serves.between.pass new.1.pass talks (where_grows policy failed serves.lost serves.between new.1 serves.told)
