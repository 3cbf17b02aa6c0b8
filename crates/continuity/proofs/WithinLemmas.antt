-- A legal journal keeps within the limits what its base keeps within them.
use Rattle.std.proofs.Common.{suc, ◌≡◌, ℕ, ◌+◌, ◌-◌, ◌<◌, ◌≤◌, ◌==◌, Bool, true, false, ◌&&◌, ◌||◌, not, List, [], ◌∷◌, ◌++◌, length, drop, filter, map, refl, sym, ◌∙◌, ap, subst, arith, if◌then◌else◌, None, nat_lt, nat_le, nat_eq, nat_cmp, append-nil, length-append}
use Rattle.std.specs.List.{list_any, IsDistinct, AllByRecursion}
use Rattle.std.specs.Cmp.{unsigned_tied}
use Rattle.std.proofs.lemmas.Bool.{eqb-true, eq-eqb}
use Rattle.std.proofs.lemmas.Bool.Decides.{nat_tests}
use Rattle.std.proofs.lemmas.Cmp.{nat_eq_equiv}
use Rattle.std.proofs.lemmas.List.{length-drop, length-map}
use Rattle.std.proofs.lemmas.List.Sums.{sum_by-take-drop}
use Rattle.std.proofs.lemmas.Map.Keys.{IsDistinct-from_sorted}
use Rattle.terms.specs.Refusal.{first_refusal}
use Rattle.terms.specs.Entry.{entry_size}
use Rattle.terms.specs.declared.entry.Entry.{Entry}
use Rattle.recovery.specs.Expiry.{is_outdated}
use Rattle.recovery.specs.SavedTable.{PlainSaved, with_session}
use Rattle.journal.specs.declared.socket.Socket.{Socket}
use Rattle.journal.specs.declared.step.Step.{Step}
use Rattle.journal.specs.declared.step.What.{What}
use Rattle.journal.specs.declared.step.What.TheVariants.{Opened, Attached, Recovered, Joined, Left, AllJoined, AllLeft, Cast, Told, Took, Parked, Ended, AllEnded, Closed, Swept}
use Rattle.journal.specs.declared.error.HubError.TheVariants.{IdTaken, UnknownClient, TooManyClients, OutboxFull, SavedFull}
use Rattle.journal.specs.Plain.{PlainBase, Limits, PlainBroadcast, PlainDismissal, PlainRecovery}
use Rattle.journal.specs.Membership.{opens, closes, open_clients, is_open, sockets, sockets_of, matches}
use Rattle.journal.specs.Sessions.{lost_session, with_sessions, sessions_after, sessions}
use Rattle.journal.specs.Log.{log}
use Rattle.journal.specs.Outboxes.{answer, farewell, is_addressed, entries_of, put, entries_for, begins, taken_by, placements, waiting, total_size, has_no_space, is_full}
use Rattle.journal.specs.Broadcast.{RightCast, is_dropped, reaches}
use Rattle.journal.specs.ManySockets.{client_of, may_hear, RightDismissal}
use Rattle.journal.specs.Totals.{is_spent}
use Rattle.journal.specs.Refusals.{open_refusal, tell_refusal, park_refusal, attach_refusal, have_no_space, recovered_entries, recover_refusal}
use Rattle.journal.specs.Legal.{IsAllowed, IsLegal}
use Rattle.journal.proofs.OutboxesLemmas.{waiting-step, waiting-begins}
use Rattle.journal.proofs.SocketsLemmas.{may-attach}
use Rattle.journal.proofs.CountsLemmas.{unrefused}
use Rattle.journal.proofs.CastLemmas.{any-filter}
use Rattle.journal.proofs.RecoverLemmas.{total_size-append, total_size-one}
use Rattle.journal.proofs.RecoverRefusalLemmas.{may-recover}
use Rattle.continuity.specs.Within.{IsWithin}

-- ---- lists

length-filter : {A : Type 0} (p : A → Bool) (xs : List A) → length (filter p xs) ≤ length xs
length-filter p [] = omega arith
length-filter p (x ∷ xs) = on (p x) (length-filter p xs)
  where
    on : (b : Bool) → length (filter p xs) ≤ length xs → length (if b then x ∷ filter p xs else filter p xs) ≤ length (x ∷ xs)
    on true h = omega (arith, h)
    on false h = omega (arith, h)

length-with : (s : PlainSaved) (ss : List PlainSaved) → length (with_session s ss) ≡ suc (length ss)
length-with s [] = refl
length-with s (t ∷ ss) = on (nat_lt s.pid t.pid) (length-with s ss)
  where
    on : (b : Bool) → length (with_session s ss) ≡ suc (length ss) → length (if b then s ∷ t ∷ ss else t ∷ with_session s ss) ≡ suc (suc (length ss))
    on true h = refl
    on false h = ap suc h

length-with-all : (ns ss : List PlainSaved) → length (with_sessions ns ss) ≡ length ns + length ss
length-with-all [] ss = omega arith
length-with-all (n ∷ ns) ss = let h = length-with-all ns (with_session n ss) in let k = length-with n ss in omega (arith, h, k)

second : {E : Type 0} (a b : Bool) (x y : E) → first_refusal ((a, x) ∷ (b, y) ∷ []) ≡ None → b ≡ false
second true b x y e = cc
second false true x y e = cc
second false false x y e = refl

pub neither : (a b : Bool) → (a || b) ≡ false → (a ≡ false) × (b ≡ false)
neither true b e = cc
neither false b e = (refl, e)

-- the entries for one client of those that are all for one
for-one : (c d : ℕ) (es : List Entry) → entries_for c (map (λ e. (d, e)) es) ≡ (if d == c then es else [])
for-one c d [] = on (d == c)
  where
    on : (b : Bool) → (let none : List Entry = [] in none) ≡ (if b then [] else [])
    on true = refl
    on false = refl
for-one c d (x ∷ es) = on (d == c) refl (for-one c d es)
  where
    on : (b : Bool) → (d == c) ≡ b → entries_for c (map (λ e. (d, e)) es) ≡ (if d == c then es else [])
        → map (λ (p : ℕ × Entry). p.1) (if b then (d, x) ∷ filter (λ (p : ℕ × Entry). p.0 == c) (map (λ e. (d, e)) es) else filter (λ (p : ℕ × Entry). p.0 == c) (map (λ e. (d, e)) es)) ≡ (if b then x ∷ es else [])
    on true is h = ap (λ l. x ∷ l) (h ∙ ap (λ b. if b then es else []) is)
    on false is h = h ∙ ap (λ b. if b then es else []) is

-- the entries for one client of those that are one for each of different clients
for-each : (c : ℕ) (e : Entry) (ds : List ℕ) → IsDistinct nat_eq ds → entries_for c (map (λ d. (d, e)) ds) ≡ (if list_any (λ d. d == c) ds then e ∷ [] else [])
unfolding IsDistinct
for-each c e [] apart = refl
for-each c e (d ∷ ds) apart = on (d == c) refl (for-each c e ds apart.1)
  where
    none : (xs : List ℕ) → AllByRecursion (λ x. nat_eq d x ≡ false) xs → (d == c) ≡ true → list_any (λ x. x == c) xs ≡ false
    none [] h is = refl
    none (x ∷ xs) h is =
        let same : d ≡ c = eqb-true d c is in
        let other : (x == c) ≡ false = nat_eq_equiv.symm x c ∙ ap (λ n. nat_eq n x) (sym same) ∙ h.0 in
        ap (λ b. b || list_any (λ x. x == c) xs) other ∙ none xs h.1 is

    on : (b : Bool) → (d == c) ≡ b → entries_for c (map (λ d. (d, e)) ds) ≡ (if list_any (λ d. d == c) ds then e ∷ [] else [])
        → map (λ (p : ℕ × Entry). p.1) (if b then (d, e) ∷ filter (λ (p : ℕ × Entry). p.0 == c) (map (λ d. (d, e)) ds) else filter (λ (p : ℕ × Entry). p.0 == c) (map (λ d. (d, e)) ds)) ≡ (if b || list_any (λ d. d == c) ds then e ∷ [] else [])
    on true is h = ap (λ l. e ∷ l) (h ∙ ap (λ b. if b then e ∷ [] else []) (none ds apart.0 is))
    on false is h = h

any-found : {A : Type 0} (p : A → Bool) (P : Type 0) (xs : List A) → ((x : A) → p x ≡ true → P) → list_any p xs ≡ true → P
any-found p P [] to e = absurd (cc e)
any-found p P (x ∷ xs) to e = on (p x) refl e (any-found p P xs to)
  where
    on : (b : Bool) → p x ≡ b → (b || list_any p xs) ≡ true → (list_any p xs ≡ true → P) → P
    on true is h rest = to x is
    on false is h rest = rest h

both : (a b : Bool) → (a && b) ≡ true → (a ≡ true) × (b ≡ true)
both true b e = (refl, e)
both false b e = cc

not-true : (b : Bool) → not b ≡ true → b ≡ false
not-true true e = cc
not-true false e = refl

module _ (base : PlainBase) (limits : Limits) where
  abbrev Fits : List Entry → Type 0
  Fits es = (length es ≤ limits.capacity) × (total_size es ≤ limits.bytes)

  fits-drop : (n : ℕ) (es : List Entry) → Fits es → Fits (drop n es)
  unfolding total_size
  fits-drop n es h =
      let l = length-drop n es in
      let s = sum_by-take-drop entry_size es n in
      (omega (arith, l, h.0), omega (arith, s, h.1))

  fits-all : (ws es : List Entry) → have_no_space limits ws es ≡ false → Fits (ws ++ es)
  fits-all ws es e =
      let no_place = neither (nat_lt limits.capacity (length ws + length es)) (nat_lt limits.bytes (total_size ws + total_size es)) e in
      let l = length-append ws es in
      let s = total_size-append ws es in
      let few : length ws + length es ≤ limits.capacity = (let h = no_place.0 in grind (arith, nat_tests, h)) in
      let small : total_size ws + total_size es ≤ limits.bytes = (let h = no_place.1 in grind (arith, nat_tests, h)) in
      (omega (arith, l, few), omega (arith, s, small))

  fits-one : (ws : List Entry) (e : Entry) → has_no_space limits.capacity limits.bytes ws e ≡ false → Fits (ws ++ e ∷ [])
  fits-one ws e h =
      let no_place = neither (nat_le limits.capacity (length ws)) (nat_lt limits.bytes (total_size ws + entry_size e)) h in
      let l = length-append ws (e ∷ []) in
      let s = total_size-append ws (e ∷ []) in
      let one = total_size-one e in
      let few : length ws < limits.capacity = (let h = no_place.0 in grind (arith, nat_tests, h)) in
      let small : total_size ws + entry_size e ≤ limits.bytes = (let h = no_place.1 in grind (arith, nat_tests, h)) in
      (omega (arith, l, few), omega (arith, s, one, small))

  fits-if : (ws : List Entry) (e : Entry) (b : Bool) → (b ≡ true → has_no_space limits.capacity limits.bytes ws e ≡ false) → Fits ws → Fits (ws ++ (if b then e ∷ [] else []))
  fits-if ws e true h was = fits-one ws e (h refl)
  fits-if ws e false h was = subst Fits (sym (append-nil ws)) was

  abbrev Waits : List Step → ℕ → Type 0
  Waits journal c = Fits (waiting base limits journal c)

  -- what is put has its place
  no-puts : (before : List Step) (c : ℕ) (what : What) → entries_for c (put base limits before what) ≡ [] → Waits before c → Fits (waiting base limits before c ++ entries_for c (put base limits before what))
  no-puts before c what none was = subst Fits (sym (ap (λ l. waiting base limits before c ++ l) none ∙ append-nil (waiting base limits before c))) was

  one-for : (before : List Step) (c d : ℕ) (e : Entry) → is_full base limits before d e ≡ false → Waits before c → Fits (waiting base limits before c ++ entries_for c ((d, e) ∷ []))
  one-for before c d e place was =
      subst (λ l. Fits (waiting base limits before c ++ l)) (sym (for-one c d (e ∷ [])))
      (fits-if (waiting base limits before c) e (d == c) (λ is. ap (λ n. has_no_space limits.capacity limits.bytes (waiting base limits before n) e) (sym (eqb-true d c is)) ∙ place) was)

  back-puts : (at : ℕ) (before : List Step) (c : ℕ) (r : PlainRecovery) → IsAllowed base limits before (record { at = at; what = Recovered r }) (Recovered r) → Waits before c
      → Fits (waiting base limits before c ++ entries_for c (put base limits before (Recovered r)))
  unfolding put
  back-puts at before c r allowed was =
      let k = r.socket in
      let right = allowed.1 in
      let may = may-recover base limits before k.client k.space k.pid r.offset at (unrefused (recover_refusal base limits before k.client k.space k.pid r.offset at) (is_spent base limits before (Recovered r)) (sym allowed.0)) in
      let same : may.session ≡ record { sid = k.sid; pid = k.pid; space = k.space; rooms = r.rooms; lost_at = right.lost_at } = (let e = sym may.found ∙ right.session in cc) in
      let es : List Entry = answer limits k ∷ entries_of (log base limits before) r.missed in
      let place : have_no_space limits (waiting base limits before k.client) es ≡ false
      = ap (λ m. have_no_space limits (waiting base limits before k.client) (answer limits k ∷ entries_of (log base limits before) m)) right.missed_is
      ∙ sym (ap (λ (s : PlainSaved). have_no_space limits (waiting base limits before k.client) (recovered_entries base limits before (record { client = k.client; space = k.space; sid = s.sid; pid = k.pid }) r.offset s.rooms)) same)
      ∙ may.place in
      subst (λ l. Fits (waiting base limits before c ++ l)) (sym (for-one c k.client es)) (on es place (k.client == c) refl)
    where
      on : (es : List Entry) → have_no_space limits (waiting base limits before r.socket.client) es ≡ false → (b : Bool) → (r.socket.client == c) ≡ b → Fits (waiting base limits before c ++ (if b then es else []))
      on es place true is = fits-all (waiting base limits before c) es (ap (λ n. have_no_space limits (waiting base limits before n) es) (sym (eqb-true r.socket.client c is)) ∙ place)
      on es place false is = subst Fits (sym (append-nil (waiting base limits before c))) was

  -- one of a list that passes
  any-self : (p : Socket → Bool) (ks : List Socket) → list_any p ks ≡ true → (k : Socket) × (p k ≡ true) × ((q : Socket → Bool) → q k ≡ true → list_any q ks ≡ true)
  any-self p [] e = absurd (cc e)
  any-self p (x ∷ xs) e = on (p x) refl e (any-self p xs)
    where
      later : (a b : Bool) → b ≡ true → (a || b) ≡ true
      later true b h = refl
      later false b h = h

      on : (b : Bool) → p x ≡ b → (b || list_any p xs) ≡ true → (list_any p xs ≡ true → (k : Socket) × (p k ≡ true) × ((q : Socket → Bool) → q k ≡ true → list_any q xs ≡ true))
          → (k : Socket) × (p k ≡ true) × ((q : Socket → Bool) → q k ≡ true → list_any q (x ∷ xs) ≡ true)
      on true is h rest = (x, is, λ q e. ap (λ b. b || list_any q xs) e)
      on false is h rest = let r = rest h in (r.0, r.1, λ q e. later (q x) (list_any q xs) (r.2 q e))

  in-list : (p q : Socket → Bool) (ks : List Socket) → list_any p (filter q ks) ≡ true → list_any (λ k. p k && q k) ks ≡ true
  in-list p q ks e = sym (any-filter p q ks) ∙ e

  -- a client that a broadcast reaches has space for it
  reached-place : (at : ℕ) (before : List Step) (b : PlainBroadcast) (c : ℕ) → RightCast base limits before (record { at = at; what = Cast b }) b → reaches base before b c ≡ true → is_full base limits before c b.entry ≡ false
  reached-place at before b c right there =
      let found = any-self (λ (k : Socket). (k.client == c) && (is_addressed base before b k && not (list_any (λ s. s == k.sid) b.dropped))) (sockets base before)
      (in-list (λ (k : Socket). k.client == c) (λ (k : Socket). is_addressed base before b k && not (list_any (λ s. s == k.sid) b.dropped)) (sockets base before) there) in
      let k = found.0 in
      let its = both (k.client == c) (is_addressed base before b k && not (list_any (λ s. s == k.sid) b.dropped)) found.1 in
      let hit = both (is_addressed base before b k) (not (list_any (λ s. s == k.sid) b.dropped)) its.1 in
      let kept : list_any (λ s. s == k.sid) b.dropped ≡ false = not-true (list_any (λ s. s == k.sid) b.dropped) hit.1 in
      on k (eqb-true k.client c its.0) hit.0 kept found.2 (is_full base limits before c b.entry) refl
    where
      on : (k : Socket) → k.client ≡ c → is_addressed base before b k ≡ true → list_any (λ s. s == k.sid) b.dropped ≡ false → ((q : Socket → Bool) → q k ≡ true → list_any q (sockets base before) ≡ true)
          → (f : Bool) → is_full base limits before c b.entry ≡ f → f ≡ false
      on k same hit kept is_in true full =
          let all : ((k.sid == k.sid) && (is_addressed base before b k && is_full base limits before k.client b.entry)) ≡ true
          = (λ i. eq-eqb k.sid k.sid refl i && (hit i && is_full base limits before (same i) b.entry)) ∙ full in
          let gone : is_dropped base limits before b k.sid ≡ true = is_in (λ (l : Socket). l.sid == k.sid && (is_addressed base before b l && is_full base limits before l.client b.entry)) all in
          let drop = right.drops k.sid ∙ gone in
          cc
      on k same hit kept is_in false full = refl

  cancel : (ws xs ys : List Entry) → ws ++ xs ≡ ws ++ ys → xs ≡ ys
  cancel [] xs ys e = e
  cancel (w ∷ ws) xs ys e = cancel ws xs ys (let h : ws ++ xs ≡ ws ++ ys = cc in h)

  cast-puts : (at : ℕ) (before : List Step) (c : ℕ) (b : PlainBroadcast) → RightCast base limits before (record { at = at; what = Cast b }) b → Waits before c
      → Fits (waiting base limits before c ++ entries_for c (put base limits before (Cast b)))
  unfolding placements
  cast-puts at before c b right was = on (reaches base before b c) refl
    where
      on : (r : Bool) → reaches base before b c ≡ r → Fits (waiting base limits before c ++ entries_for c (put base limits before (Cast b)))
      on true there =
          let one : entries_for c (put base limits before (Cast b)) ≡ b.entry ∷ [] = cancel (placements base limits before c) (entries_for c (put base limits before (Cast b))) (b.entry ∷ []) (right.places c there) in
          subst (λ l. Fits (waiting base limits before c ++ l)) (sym one) (fits-one (waiting base limits before c) b.entry (reached-place at before b c right there))
      on false there =
          let none : entries_for c (put base limits before (Cast b)) ≡ [] = cancel (placements base limits before c) (entries_for c (put base limits before (Cast b))) [] (right.others c there ∙ sym (append-nil (placements base limits before c))) in
          no-puts before c (Cast b) none was

  told-place : (before : List Step) (d : PlainDismissal) (c : ℕ) → RightDismissal base limits before d → list_any (λ e. e == c) d.told ≡ true → is_full base limits before c (farewell limits d.space) ≡ false
  told-place before d c right there =
      any-found (λ (k : Socket). client_of k == c && may_hear base limits before d.space d.rooms d.excepted k) (is_full base limits before c (farewell limits d.space) ≡ false) (sockets base before)
      (λ k e.
      let its = both (k.client == c) (may_hear base limits before d.space d.rooms d.excepted k) e in
      let hears = both (matches base before d.space d.rooms d.excepted k) (not (is_full base limits before k.client (farewell limits d.space))) its.1 in
      ap (λ n. is_full base limits before n (farewell limits d.space)) (sym (eqb-true k.client c its.0)) ∙ not-true (is_full base limits before k.client (farewell limits d.space)) hears.1)
      (sym (right.told.exactly c) ∙ ap (λ p. list_any p d.told) (λ i e. (unsigned_tied c e ∙ nat_eq_equiv.symm c e) i) ∙ there)

  told-puts : (before : List Step) (d : PlainDismissal) (c : ℕ) → RightDismissal base limits before d → Waits before c → Fits (waiting base limits before c ++ entries_for c (put base limits before (AllEnded d)))
  unfolding put
  told-puts before d c right was =
      let apart : IsDistinct nat_eq d.told = subst (λ e. IsDistinct e d.told) (λ i x y. unsigned_tied x y i) (IsDistinct-from_sorted nat_cmp d.told right.told.rises) in
      subst (λ l. Fits (waiting base limits before c ++ l)) (sym (for-each c (farewell limits d.space) d.told apart))
      (fits-if (waiting base limits before c) (farewell limits d.space) (list_any (λ e. e == c) d.told) (told-place before d c right) was)

  puts-fit : (at : ℕ) (before : List Step) (c : ℕ) (what : What) → IsAllowed base limits before (record { at = at; what = what }) what → Waits before c → Fits (waiting base limits before c ++ entries_for c (put base limits before what))
  unfolding put
  puts-fit at before c (Attached k) allowed was = one-for before c k.client (answer limits k) (may-attach base limits before k (unrefused (attach_refusal base limits before k) (is_spent base limits before (Attached k)) (sym allowed.0))).place was
  puts-fit at before c (Recovered r) allowed was = back-puts at before c r allowed was
  puts-fit at before c (Cast b) allowed was = cast-puts at before c b allowed.1.cast was
  puts-fit at before c (Told m) allowed was =
      one-for before c m.client m.entry
      (second (not (is_open base before m.client)) (is_full base limits before m.client m.entry) UnknownClient OutboxFull (unrefused (tell_refusal base limits before m.client m.entry) (is_spent base limits before (Told m)) (sym allowed.0))) was
  puts-fit at before c (AllEnded d) allowed was = told-puts before d c allowed.1 was
  puts-fit at before c (Opened d) allowed was = no-puts before c (Opened d) refl was
  puts-fit at before c (Joined t w) allowed was = no-puts before c (Joined t w) refl was
  puts-fit at before c (Left t w) allowed was = no-puts before c (Left t w) refl was
  puts-fit at before c (AllJoined m) allowed was = no-puts before c (AllJoined m) refl was
  puts-fit at before c (AllLeft m) allowed was = no-puts before c (AllLeft m) refl was
  puts-fit at before c (Took d m n) allowed was = no-puts before c (Took d m n) refl was
  puts-fit at before c (Parked d) allowed was = no-puts before c (Parked d) refl was
  puts-fit at before c (Ended t by) allowed was = no-puts before c (Ended t by) refl was
  puts-fit at before c (Closed d) allowed was = no-puts before c (Closed d) refl was
  puts-fit at before c Swept allowed was = no-puts before c Swept refl was

  waits-after : (step : Step) (before : List Step) → IsLegal base limits (step ∷ before) → IsLegal base limits before → (c : ℕ) → Waits before c → Waits (step ∷ before) c
  unfolding IsLegal total_size
  waits-after step before legal legal' c was = on (begins c step.what) refl
    where
      on : (b : Bool) → begins c step.what ≡ b → Waits (step ∷ before) c
      on true e = subst Fits (sym (waiting-begins base limits step before c e)) (omega arith, omega arith)
      on false e =
          subst Fits (sym (waiting-step base limits step before legal' c e))
          (fits-drop (taken_by c step.what) (waiting base limits before c ++ entries_for c (put base limits before step.what)) (puts-fit step.at before c step.what legal.0 was))

  -- ---- clients and saved sessions

  few-opens : (at : ℕ) (before : List Step) (what : What) → IsAllowed base limits before (record { at = at; what = what }) what → length (open_clients base before) ≤ limits.clients
      → length (filter (λ c. not (closes what c)) (open_clients base before)) + length (opens what) ≤ limits.clients
  few-opens at before (Opened d) allowed was =
      let full = second (is_open base before d) (nat_le limits.clients (length (open_clients base before))) IdTaken TooManyClients (unrefused (open_refusal base limits before d) (is_spent base limits before (Opened d)) (sym allowed.0)) in
      let less : length (open_clients base before) < limits.clients = grind (arith, nat_tests, full) in
      let fewer = length-filter (λ c. not (closes (Opened d) c)) (open_clients base before) in
      omega (arith, less, fewer)
  few-opens at before (Attached k) allowed was = (let fewer = length-filter (λ c. not (closes (Attached k) c)) (open_clients base before) in omega (arith, was, fewer))
  few-opens at before (Recovered r) allowed was = (let fewer = length-filter (λ c. not (closes (Recovered r) c)) (open_clients base before) in omega (arith, was, fewer))
  few-opens at before (Joined t w) allowed was = (let fewer = length-filter (λ c. not (closes (Joined t w) c)) (open_clients base before) in omega (arith, was, fewer))
  few-opens at before (Left t w) allowed was = (let fewer = length-filter (λ c. not (closes (Left t w) c)) (open_clients base before) in omega (arith, was, fewer))
  few-opens at before (AllJoined m) allowed was = (let fewer = length-filter (λ c. not (closes (AllJoined m) c)) (open_clients base before) in omega (arith, was, fewer))
  few-opens at before (AllLeft m) allowed was = (let fewer = length-filter (λ c. not (closes (AllLeft m) c)) (open_clients base before) in omega (arith, was, fewer))
  few-opens at before (Cast b) allowed was = (let fewer = length-filter (λ c. not (closes (Cast b) c)) (open_clients base before) in omega (arith, was, fewer))
  few-opens at before (Told m) allowed was = (let fewer = length-filter (λ c. not (closes (Told m) c)) (open_clients base before) in omega (arith, was, fewer))
  few-opens at before (Took d m n) allowed was = (let fewer = length-filter (λ c. not (closes (Took d m n) c)) (open_clients base before) in omega (arith, was, fewer))
  few-opens at before (Parked d) allowed was = (let fewer = length-filter (λ c. not (closes (Parked d) c)) (open_clients base before) in omega (arith, was, fewer))
  few-opens at before (Ended t by) allowed was = (let fewer = length-filter (λ c. not (closes (Ended t by) c)) (open_clients base before) in omega (arith, was, fewer))
  few-opens at before (AllEnded d) allowed was = (let fewer = length-filter (λ c. not (closes (AllEnded d) c)) (open_clients base before) in omega (arith, was, fewer))
  few-opens at before (Closed d) allowed was = (let fewer = length-filter (λ c. not (closes (Closed d) c)) (open_clients base before) in omega (arith, was, fewer))
  few-opens at before Swept allowed was = (let fewer = length-filter (λ c. not (closes Swept c)) (open_clients base before) in omega (arith, was, fewer))

  clients-after : (step : Step) (before : List Step) → IsAllowed base limits before step step.what → length (open_clients base before) ≤ limits.clients → length (open_clients base (step ∷ before)) ≤ limits.clients
  unfolding open_clients
  clients-after step before allowed was =
      let l = length-append (filter (λ c. not (closes step.what c)) (open_clients base before)) (opens step.what) in
      let few = few-opens step.at before step.what allowed was in
      omega (arith, l, few)

  saved-after : (at : ℕ) (before : List Step) (what : What) → IsAllowed base limits before (record { at = at; what = what }) what → length (sessions base limits before) ≤ limits.saved
      → length (sessions_after base limits before at (sessions base limits before) what) ≤ limits.saved
  saved-after at before (Parked c) allowed was =
      let full = second (not (is_open base before c)) (nat_lt (limits.saved - length (sessions base limits before)) (length (sockets_of base before c))) UnknownClient SavedFull (unrefused (park_refusal base limits before c) (is_spent base limits before (Parked c)) (sym allowed.0)) in
      let room : length (sockets_of base before c) ≤ limits.saved - length (sessions base limits before) = grind (arith, nat_tests, full) in
      let all = length-with-all (map (lost_session base before at) (sockets_of base before c)) (sessions base limits before) in
      let lost = length-map (sockets_of base before c) (lost_session base before at) in
      omega (arith, room, all, lost, was)
  saved-after at before (Recovered r) allowed was = (let fewer = length-filter (λ (s : PlainSaved). not (s.pid == r.socket.pid)) (sessions base limits before) in omega (arith, was, fewer))
  saved-after at before Swept allowed was = (let fewer = length-filter (λ (s : PlainSaved). not (is_outdated limits.keep at s.lost_at)) (sessions base limits before) in omega (arith, was, fewer))
  saved-after at before (Opened d) allowed was = was
  saved-after at before (Attached k) allowed was = was
  saved-after at before (Joined t w) allowed was = was
  saved-after at before (Left t w) allowed was = was
  saved-after at before (AllJoined m) allowed was = was
  saved-after at before (AllLeft m) allowed was = was
  saved-after at before (Cast b) allowed was = was
  saved-after at before (Told m) allowed was = was
  saved-after at before (Took d m n) allowed was = was
  saved-after at before (Ended t by) allowed was = was
  saved-after at before (AllEnded d) allowed was = was
  saved-after at before (Closed d) allowed was = was

  sessions-are : (step : Step) (before : List Step) → sessions base limits (step ∷ before) ≡ sessions_after base limits before step.at (sessions base limits before) step.what
  unfolding sessions
  sessions-are step before = refl

  -- a legal journal keeps within the limits what its base keeps within them
  pub stays-within : (journal : List Step) → IsLegal base limits journal → IsWithin base limits [] → IsWithin base limits journal
  unfolding IsLegal
  stays-within [] legal was = was
  stays-within (step ∷ before) legal was =
      let now = stays-within before legal.2 was in
      let waits : (c : ℕ) → Waits (step ∷ before) c = λ c. waits-after step before legal legal.2 c (now.entries c, now.bytes c) in
      record {
        clients = clients-after step before legal.0 now.clients;
        saved = ap-le (ap length (sessions-are step before)) (saved-after step.at before step.what legal.0 now.saved);
        entries = λ c. (waits c).0;
        bytes = λ c. (waits c).1;
      }
    where
      ap-le : {a b m : ℕ} → a ≡ b → b ≤ m → a ≤ m
      ap-le e h = omega (arith, e, h)
