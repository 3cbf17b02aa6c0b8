-- Sockets that are connected, and those that ended, are in namespaces of the hub.
use Rattle.std.proofs.Common.{◌≡◌, ℕ, ◌==◌, Bool, true, false, not, cond, List, [], ◌∷◌, map, filter, refl, Option, None, Some, if◌then◌else◌}
use Rattle.std.specs.List.{find, flat_map, AllByRecursion}
use Rattle.journal.specs.declared.error.HubError.{HubError}
use Rattle.journal.specs.declared.error.HubError.TheVariants.{UnknownClient, UnknownNamespace}
use Rattle.journal.specs.declared.ending.Ending.{Ending}
use Rattle.journal.specs.declared.socket.Socket.{Socket}
use Rattle.journal.specs.declared.step.Step.{Step}
use Rattle.journal.specs.declared.step.What.{What}
use Rattle.journal.specs.declared.step.What.TheVariants.{Attached, Recovered, Parked, Ended, AllEnded, Closed}
use Rattle.journal.specs.Plain.{PlainBase, Limits}
use Rattle.journal.specs.Casting.{in_space}
use Rattle.journal.specs.Legal.{IsLegal, IsAllowed}
use Rattle.journal.specs.Refusals.{or_spent}
use Rattle.journal.specs.Totals.{is_spent}
use Rattle.journal.specs.Membership.{is_open, is_space, sockets, sockets_of, socket_with, sid_of, connects, ends, rooms}
use Rattle.journal.proofs.EndLemmas.{all-filter}
use Rattle.journal.proofs.SealListsLemmas.{all-append}
use Rattle.room_maps.specs.Membership.{RoomSets}
use Rattle.hub_state.specs.EndedSockets.{PlainEnded, as_ended, found, sockets_ended_by, ended_sockets}

-- where nothing speaks against a step, its own command isn't refused
own-none : (o : Option HubError) (spent : Bool) → or_spent o spent ≡ None → o ≡ None
own-none None spent e = refl
own-none (Some refusal) spent e = absurd (cc e)

second : (a b : Bool) (rest : Option HubError) → cond (not a) (Some UnknownClient) (cond (not b) (Some UnknownNamespace) rest) ≡ None → b ≡ true
second a true rest e = refl
second true false rest e = absurd (cc e)
second false false rest e = absurd (cc e)

module _ (base : PlainBase) (limits : Limits) where
  abbrev IsIn : Socket → Type 0
  IsIn k = is_space limits k.space ≡ true

  abbrev AllIn : List Socket → Type 0
  AllIn ks = AllByRecursion IsIn ks

  connected-in : (before : List Step) (step : Step) (what : What) → IsAllowed base limits before step what → AllIn (connects what)
  connected-in before step (Attached k) allowed =
      (second (is_open base before k.client) (is_space limits k.space) _ (own-none _ (is_spent base limits before (Attached k)) allowed.0), tt)
  connected-in before step (Recovered r) allowed =
      (second (is_open base before r.socket.client) (is_space limits r.socket.space) _ (own-none _ (is_spent base limits before (Recovered r)) allowed.0), tt)
  connected-in before step _ allowed = tt

  sockets-in : (journal : List Step) → IsLegal base limits journal → AllIn (sockets base journal)
  unfolding sockets IsLegal
  sockets-in [] legal = legal.in_spaces
  sockets-in (step ∷ before) legal =
      all-append IsIn (filter (λ k. not (ends step.what k)) (sockets base before)) (connects step.what)
      (all-filter IsIn (λ k. not (ends step.what k)) (sockets base before) (sockets-in before legal.2)) (connected-in before step step.what legal.0)

  -- those that are found among them
  found-in : (p : Socket → Bool) (ks : List Socket) → AllIn ks → AllIn (found (find p ks))
  found-in p [] all = tt
  found-in p (k ∷ ks) all = on (p k) (found-in p ks all.1)
    where
      on : (b : Bool) → AllIn (found (find p ks)) → AllIn (found (if b then Some k else find p ks))
      on true rest = (all.0, tt)
      on false rest = rest

  here-in : (space : ℕ) (o : Option Socket) → AllIn (found o) → AllIn (in_space space o)
  here-in space None all = tt
  here-in space (Some k) all = on (k.space == space)
    where
      on : (b : Bool) → AllIn (if b then k ∷ [] else [])
      on true = (all.0, tt)
      on false = tt

  each-in : (f : ℕ → List Socket) → ((s : ℕ) → AllIn (f s)) → (ids : List ℕ) → AllIn (flat_map f ids)
  each-in f all [] = tt
  each-in f all (s ∷ ids) = all-append IsIn (f s) (flat_map f ids) (all s) (each-in f all ids)

  -- ---- those that ended

  abbrev IsGoneIn : PlainEnded → Type 0
  IsGoneIn gone = is_space limits gone.socket.space ≡ true

  gone-in : (how : Ending) (sets : RoomSets) (ks : List Socket) → AllIn ks → AllByRecursion IsGoneIn (map (as_ended how sets) ks)
  gone-in how sets [] all = tt
  gone-in how sets (k ∷ ks) all = (all.0, gone-in how sets ks all.1)

  with-in : (before : List Step) → AllIn (sockets base before) → (s : ℕ) → AllIn (found (socket_with sid_of base before s))
  unfolding socket_with
  with-in before all s = found-in _ (sockets base before) all

  of-in : (before : List Step) → AllIn (sockets base before) → (c : ℕ) → AllIn (sockets_of base before c)
  unfolding sockets_of
  of-in before all c = all-filter IsIn _ (sockets base before) all

  by-in : (before : List Step) (what : What) → AllIn (sockets base before) → AllByRecursion IsGoneIn (sockets_ended_by base before what)
  by-in before (Ended s by) all = gone-in _ (rooms base before) _ (with-in before all s)
  by-in before (AllEnded d) all = gone-in _ (rooms base before) _ (each-in _ (λ s. here-in d.space _ (with-in before all s)) d.ended)
  by-in before (Parked c) all = gone-in _ (rooms base before) _ (of-in before all c)
  by-in before (Closed c) all = gone-in _ (rooms base before) _ (of-in before all c)
  by-in before _ all = tt

  pub ended_sockets-in : (journal : List Step) → IsLegal base limits journal → AllByRecursion IsGoneIn (ended_sockets base journal)
  unfolding ended_sockets IsLegal
  ended_sockets-in [] legal = tt
  ended_sockets-in (step ∷ before) legal =
      all-append IsGoneIn (ended_sockets base before) (sockets_ended_by base before step.what) (ended_sockets-in before legal.2) (by-in before step.what (sockets-in before legal.2))
