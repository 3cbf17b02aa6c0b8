-- What is so of all entries that a base has and that steps bring in is so of all that wait.
use Rattle.std.proofs.Common.{zero, suc, ◌≡◌, ℕ, ◌==◌, Bool, true, false, List, [], ◌∷◌, ◌++◌, drop, filter, map, reverse, sym, subst, if◌then◌else◌, Option, None, Some}
use Rattle.std.proofs.lemmas.List.{reverse-append}
use Rattle.std.specs.List.{list_any, find, AllByRecursion}
use Rattle.std.specs.Option.{option_map, option_map_or}
use Rattle.terms.specs.declared.entry.Entry.{Entry}
use Rattle.recovery.specs.PacketLog as packets
use Rattle.recovery.specs.PacketLog.{PlainLogged, LogCall, drops, unswept, kept}
use Rattle.recovery.proofs.LatestLemmas.{newest_drop}
use Rattle.journal.specs.declared.socket.Socket.{Socket}
use Rattle.journal.specs.declared.step.Step.{Step}
use Rattle.journal.specs.declared.step.What.{What}
use Rattle.journal.specs.declared.step.What.TheVariants.{Attached, Recovered, Cast, Told, AllEnded, Swept}
use Rattle.journal.specs.Plain.{Limits, PlainBase, PlainBaseClient}
use Rattle.journal.specs.Log.{logged, log_call, with_call, log_calls, log}
use Rattle.journal.specs.Outboxes.{put, entries_for, entries_of, begins, placements, taken, waiting, receivers, farewell}
use Rattle.journal.specs.Entries.{own_entries, entry_of, AllPass, BringsOnly, HoldsOnly}
use Rattle.journal.proofs.EndLemmas.{all-filter}
use Rattle.journal.proofs.SealListsLemmas.{all-append, reverse-map}

module _ {A : Type 0} (P : A → Type 0) where
  all-drop : (n : ℕ) (xs : List A) → AllByRecursion P xs → AllByRecursion P (drop n xs)
  all-drop zero xs h = h
  all-drop (suc n) [] h = tt
  all-drop (suc n) (x ∷ xs) h = all-drop n xs h.1

  all-map : {B : Type 0} (f : B → A) (xs : List B) → AllByRecursion (λ x. P (f x)) xs → AllByRecursion P (map f xs)
  all-map f [] h = tt
  all-map f (x ∷ xs) h = (h.0, all-map f xs h.1)

  all-from-map : {B : Type 0} (f : B → A) (xs : List B) → AllByRecursion P (map f xs) → AllByRecursion (λ x. P (f x)) xs
  all-from-map f [] h = tt
  all-from-map f (x ∷ xs) h = (h.0, all-from-map f xs h.1)

  all-reverse : (xs : List A) → AllByRecursion P xs → AllByRecursion P (reverse xs)
  all-reverse [] h = tt
  all-reverse (x ∷ xs) h = subst (AllByRecursion P) (sym (reverse-append (x ∷ []) xs)) (all-append P (reverse xs) (x ∷ []) (all-reverse xs h.1) (h.0, tt))

module _ (good : Entry → Bool) (base : PlainBase) (limits : Limits) where
  abbrev Passes : Entry → Type 0
  Passes e = good e ≡ true

  abbrev IsGoodPair : ℕ × Entry → Type 0
  IsGoodPair p = Passes p.1

  abbrev IsGoodLogged : PlainLogged → Type 0
  IsGoodLogged e = Passes e.entry

  -- a call that pushes only what passes
  IsGoodCall : LogCall → Type 0
  IsGoodCall (packets.Pushed e) = Passes e.entry
  IsGoodCall (packets.Swept keep now) = Unit {0}

  all-unswept : (later calls : List LogCall) → AllByRecursion IsGoodCall calls → AllByRecursion IsGoodLogged (unswept later calls)
  unfolding unswept IsGoodCall
  all-unswept later [] h = tt
  all-unswept later (packets.Pushed e ∷ calls) h =
      all-append IsGoodLogged (unswept (packets.Pushed e ∷ later) calls) (if list_any (drops e.at) later then [] else e ∷ []) (all-unswept (packets.Pushed e ∷ later) calls h.1) (on (list_any (drops e.at) later))
    where
      on : (b : Bool) → AllByRecursion IsGoodLogged (if b then [] else e ∷ [])
      on true = tt
      on false = (h.0, tt)
  all-unswept later (packets.Swept keep now ∷ calls) h = all-unswept (packets.Swept keep now ∷ later) calls h.1

  all-kept : (limit bytes : ℕ) (calls : List LogCall) → AllByRecursion IsGoodCall calls → AllByRecursion IsGoodLogged (kept limit bytes calls)
  all-kept limit bytes calls h =
      let end = newest_drop limit bytes (unswept [] calls) in
      subst (AllByRecursion IsGoodLogged) (sym end.1) (all-drop IsGoodLogged end.0 (unswept [] calls) (all-unswept [] calls h))

  all-pushed : (es : List PlainLogged) → AllByRecursion IsGoodLogged es → AllByRecursion IsGoodCall (map packets.Pushed es)
  unfolding IsGoodCall
  all-pushed [] h = tt
  all-pushed (e ∷ es) h = (h.0, all-pushed es h.1)

  one-call : (at : ℕ) (what : What) (calls : List LogCall) → AllPass good (own_entries limits what) → AllByRecursion IsGoodCall calls → AllByRecursion IsGoodCall (with_call (log_call limits at what) calls)
  unfolding IsGoodCall
  one-call at (Cast b) calls own h = on b.offset
    where
      on : (o : Option ℕ) → AllByRecursion IsGoodCall (with_call (option_map (λ offset. packets.Pushed (logged at b offset)) o) calls)
      on None = h
      on (Some offset) = (own.0, h)
  one-call at Swept calls own h = (tt, h)
  one-call at _ calls own h = h

  good-calls : (journal : List Step) → BringsOnly good base limits journal → AllByRecursion IsGoodCall (log_calls base limits journal)
  unfolding log_calls
  good-calls [] brings =
      subst (AllByRecursion IsGoodCall) (sym (reverse-map packets.Pushed base.log))
      (all-pushed (reverse base.log) (all-reverse IsGoodLogged base.log (all-from-map Passes entry_of base.log brings.base_log)))
  good-calls (step ∷ before) brings =
      one-call step.at step.what (log_calls base limits before) brings.steps.0
      (good-calls before (record { base_clients = brings.base_clients; base_log = brings.base_log; steps = brings.steps.1 }))

  good-log : (journal : List Step) → BringsOnly good base limits journal → AllByRecursion IsGoodLogged (log base limits journal)
  unfolding log
  good-log journal brings = all-kept limits.log limits.log_bytes (log_calls base limits journal) (good-calls journal brings)

  all-for : (c : ℕ) (pairs : List (ℕ × Entry)) → AllByRecursion IsGoodPair pairs → AllPass good (entries_for c pairs)
  all-for c pairs h = all-map Passes (λ (p : ℕ × Entry). p.1) (filter (λ (p : ℕ × Entry). p.0 == c) pairs) (all-filter IsGoodPair (λ (p : ℕ × Entry). p.0 == c) pairs h)

  each : {A : Type 0} (f : A → ℕ) (e : Entry) (xs : List A) → Passes e → AllByRecursion IsGoodPair (map (λ x. (f x, e)) xs)
  each f e [] h = tt
  each f e (x ∷ xs) h = (h, each f e xs h)

  to-one : (c : ℕ) (es : List Entry) → AllPass good es → AllByRecursion IsGoodPair (map (λ e. (c, e)) es)
  to-one c [] h = tt
  to-one c (e ∷ es) h = (h.0, to-one c es h.1)

  -- what a step puts is its own or was logged
  good-put : (before : List Step) (what : What) → AllPass good (own_entries limits what) → AllByRecursion IsGoodLogged (log base limits before) → AllByRecursion IsGoodPair (put base limits before what)
  unfolding put
  good-put before (Attached k) own logs = own
  good-put before (Recovered r) own logs =
      (own.0, to-one r.socket.client (entries_of (log base limits before) r.missed) (all-map Passes entry_of _ (all-filter IsGoodLogged _ (log base limits before) logs)))
  good-put before (Cast b) own logs = each (λ (k : Socket). k.client) b.entry (receivers base before b) own.0
  good-put before (Told m) own logs = own
  good-put before (AllEnded d) own logs = each (λ c. c) (farewell limits d.space) d.told own.0
  good-put before _ own logs = tt

  good-base : (c : ℕ) (bs : List PlainBaseClient) → AllByRecursion (λ (b : PlainBaseClient). AllPass good b.waiting) bs
      → AllPass good (option_map_or (λ (b : PlainBaseClient). b.waiting) (find (λ (b : PlainBaseClient). b.client == c) bs) [])
  good-base c [] h = tt
  good-base c (b ∷ bs) h = on (b.client == c) (good-base c bs h.1)
    where
      on : (t : Bool) → AllPass good (option_map_or (λ (b : PlainBaseClient). b.waiting) (find (λ (b : PlainBaseClient). b.client == c) bs) [])
          → AllPass good (option_map_or (λ (b : PlainBaseClient). b.waiting) (if t then Some b else find (λ (b : PlainBaseClient). b.client == c) bs) [])
      on true ih = h.0
      on false ih = ih

  good-placements : (c : ℕ) (journal : List Step) → BringsOnly good base limits journal → AllPass good (placements base limits journal c)
  unfolding placements
  good-placements c [] brings = good-base c base.clients brings.base_clients
  good-placements c (step ∷ before) brings =
      let earlier : BringsOnly good base limits before = record { base_clients = brings.base_clients; base_log = brings.base_log; steps = brings.steps.1 } in
      on (begins c step.what) (good-placements c before earlier) (all-for c (put base limits before step.what) (good-put before step.what brings.steps.0 (good-log before earlier)))
    where
      on : (t : Bool) → AllPass good (placements base limits before c) → AllPass good (entries_for c (put base limits before step.what))
          → AllPass good (if t then [] else placements base limits before c ++ entries_for c (put base limits before step.what))
      on true a b = tt
      on false a b = all-append Passes (placements base limits before c) (entries_for c (put base limits before step.what)) a b

  pub what-waits : (journal : List Step) → BringsOnly good base limits journal → HoldsOnly good base limits journal
  unfolding waiting
  what-waits journal brings = record {
    waits = λ c. all-drop Passes (taken base journal c) (placements base limits journal c) (good-placements c journal brings);
    was_put = λ c. good-placements c journal brings;
    logged = all-map Passes entry_of (log base limits journal) (good-log journal brings);
  }
