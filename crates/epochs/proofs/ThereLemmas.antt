-- Who is there was attached, or was there at first.
use Rattle.std.proofs.Common.{◌≡◌, ℕ, ◌==◌, Bool, true, false, not, List, [], ◌∷◌, ◌++◌, map, filter, subst, arith, nat_lt, if◌then◌else◌}
use Rattle.std.specs.List.{AllByRecursion}
use Rattle.std.proofs.lemmas.Bool.Decides.{nat_tests}
use Rattle.recovery.specs.SavedTable.{PlainSaved, with_session}
use Rattle.journal.specs.declared.socket.Socket.{Socket}
use Rattle.journal.specs.declared.step.Step.{Step}
use Rattle.journal.specs.declared.step.What.{What}
use Rattle.journal.specs.declared.step.What.TheVariants.{Attached, Recovered, Parked, Swept}
use Rattle.journal.specs.Plain.{PlainBase, Limits}
use Rattle.journal.specs.Journal.{History, history}
use Rattle.journal.specs.Membership.{sockets, sockets_of, connects, ends}
use Rattle.journal.specs.Sessions.{lost_session, with_sessions, sessions, sessions_after}
use Rattle.journal.specs.Legal.{IsAllowed, IsLegal}
use Rattle.journal.proofs.EndLemmas.{all-filter}
use Rattle.journal.proofs.RecoverLemmas.{found-passes}
use Rattle.journal.proofs.SealListsLemmas.{all-append}
use Rattle.epochs.specs.Epochs.{AreAlike}
use Rattle.epochs.specs.LetIn.{attaches, attached, Everyone}

all-left : {A : Type 0} (P : A → Type 0) (xs ys : List A) → AllByRecursion P (xs ++ ys) → AllByRecursion P xs
all-left P [] ys all = tt
all-left P (x ∷ xs) ys all = (all.0, all-left P xs ys all.1)

all-right : {A : Type 0} (P : A → Type 0) (xs ys : List A) → AllByRecursion P (xs ++ ys) → AllByRecursion P ys
all-right P [] ys all = all
all-right P (x ∷ xs) ys all = all-right P xs ys all.1

module _ (Is : (sid space : ℕ) → Type 0) where
  abbrev pub Connected : List Socket → Type 0
  Connected ks = AllByRecursion (λ (k : Socket). Is k.sid k.space) ks

  abbrev pub Saved : List PlainSaved → Type 0
  Saved ss = AllByRecursion (λ (s : PlainSaved). Is s.sid s.space) ss

  -- ---- sessions that are saved

  with-one : (s : PlainSaved) (ss : List PlainSaved) → Is s.sid s.space → Saved ss → Saved (with_session s ss)
  with-one s [] is all = (is, tt)
  with-one s (t ∷ ss) is all = on (nat_lt s.pid t.pid) (with-one s ss is all.1)
    where
      on : (b : Bool) → Saved (with_session s ss) → Saved (if b then s ∷ t ∷ ss else t ∷ with_session s ss)
      on true more = (is, all)
      on false more = (all.0, more)

  with-all : (ns ss : List PlainSaved) → Saved ns → Saved ss → Saved (with_sessions ns ss)
  with-all [] ss new all = all
  with-all (n ∷ ns) ss new all = with-all ns (with_session n ss) new.1 (with-one n ss new.0 all)

  all-lost : (base : PlainBase) (before : List Step) (at : ℕ) (ks : List Socket) → Connected ks → Saved (map (lost_session base before at) ks)
  all-lost base before at [] all = tt
  all-lost base before at (k ∷ ks) all = (all.0, all-lost base before at ks all.1)

  module _ (base : PlainBase) (limits : Limits) where
    of-client : (before : List Step) (c : ℕ) → Connected (sockets base before) → Connected (sockets_of base before c)
    unfolding sockets_of
    of-client before c all = all-filter _ _ (sockets base before) all

    saved-after : (before : List Step) (at : ℕ) (w : What) → Connected (sockets base before) → Saved (sessions base limits before)
        → Saved (sessions_after base limits before at (sessions base limits before) w)
    saved-after before at (Parked c) here saved =
        with-all (map (lost_session base before at) (sockets_of base before c)) (sessions base limits before) (all-lost base before at (sockets_of base before c) (of-client before c here)) saved
    saved-after before at (Recovered r) here saved = all-filter _ _ (sessions base limits before) saved
    saved-after before at Swept here saved = all-filter _ _ (sessions base limits before) saved
    saved-after before at _ here saved = saved

    -- ---- sockets that are connected

    connected-after : (before : List Step) (step : Step) (w : What) → IsAllowed base limits before step w → Connected (attaches w) → Saved (sessions base limits before) → Connected (connects w)
    connected-after before step (Attached k) allowed new saved = new
    connected-after before step (Recovered r) allowed new saved = ((found-passes _ _ (sessions base limits before) _ saved allowed.1.session).0, tt)
    connected-after before step _ allowed new saved = tt

    -- who is there is such a one, where those of the base were and those that were attached are
    pub all-there : (journal : List Step) → IsLegal base limits journal → Connected (attached journal) → Connected (sockets base []) → Saved base.saved → Everyone Is (history base limits journal)
    unfolding sockets sessions IsLegal
    all-there [] legal new here saved = record { connected = here; saved = saved }
    all-there (step ∷ before) legal new here saved =
        let was = all-there before legal.2 (all-right _ (attaches step.what) (attached before) new) here saved in
        record {
          connected =
              all-append _ (filter (λ k. not (ends step.what k)) (sockets base before)) (connects step.what) (all-filter _ _ (sockets base before) was.connected)
              (connected-after before step step.what legal.0 (all-left _ (attaches step.what) (attached before) new) was.saved);
          saved = saved-after before step.at step.what was.connected was.saved;
        }

  -- ---- the sockets of each client

  same-client : (c : ℕ) → (c == c) ≡ true
  same-client c = grind (arith, nat_tests)

  -- who is among those of a client is such a one
  pub all-each : (ks : List Socket) → ((c : ℕ) → Connected (filter (λ k. k.client == c) ks)) → Connected ks
  all-each [] each = tt
  all-each (k ∷ ks) each = (here (each k.client), all-each ks (λ c. rest c (k.client == c) (each c)))
    where
      here : Connected (if k.client == k.client then k ∷ filter (λ l. l.client == k.client) ks else filter (λ l. l.client == k.client) ks) → Is k.sid k.space
      here all = (subst (λ (b : Bool). Connected (if b then k ∷ filter (λ l. l.client == k.client) ks else filter (λ l. l.client == k.client) ks)) (same-client k.client) all).0

      rest : (c : ℕ) (b : Bool) → Connected (if b then k ∷ filter (λ l. l.client == c) ks else filter (λ l. l.client == c) ks) → Connected (filter (λ l. l.client == c) ks)
      rest c true all = all.1
      rest c false all = all

  -- histories that say the same have the same there
  pub alike-there : (h g : History) → AreAlike h g → Everyone Is g → Everyone Is h
  unfolding sockets_of
  alike-there h g alike was = record {
    connected = all-each (sockets h.base h.journal) (λ c. subst Connected (alike.same.same_sockets c) (of-client g.base g.limits g.journal c was.connected));
    saved = subst Saved alike.same.same_sessions was.saved;
  }
