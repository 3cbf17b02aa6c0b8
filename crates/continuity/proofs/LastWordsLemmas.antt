-- Clients, sockets and saved sessions are what the last words on them say.
use Rattle.std.proofs.Common.{◌≡◌, ℕ, ◌+◌, ◌≤◌, ◌==◌, Bool, true, false, ◌&&◌, ◌||◌, not, List, [], ◌∷◌, ◌++◌, filter, refl, sym, ◌∙◌, ap, subst, arith, if◌then◌else◌, None, Some, append-nil, nat_eq, unwrap_or}
use Rattle.std.specs.List.{list_any, find}
use Rattle.std.proofs.lemmas.Bool.{eqb-true}
use Rattle.std.proofs.lemmas.Cmp.{nat_eq_equiv}
use Rattle.std.proofs.lemmas.List.Folds.{list_any-append}
use Rattle.recovery.specs.SavedTable.{PlainSaved}
use Rattle.journal.specs.declared.socket.Socket.{Socket}
use Rattle.journal.specs.declared.step.Step.{Step}
use Rattle.journal.specs.declared.step.What.{What}
use Rattle.journal.specs.declared.step.What.TheVariants.{Opened, Attached, Recovered, Joined, Left, AllJoined, AllLeft, Cast, Told, Took, Parked, Ended, AllEnded, Closed, Swept}
use Rattle.journal.specs.Plain.{PlainBase, Limits}
use Rattle.journal.specs.Membership.{opens, closes, open_clients, is_open, connects, ends, sockets, sid_of, has_id, socket_with, sockets_of}
use Rattle.journal.specs.Legal.{IsLegal}
use Rattle.continuity.specs.LastWords.{client_word, is_last_open, has_socket, socket_word, last_socket}
use Rattle.continuity.proofs.IdsLemmas.{one, count, count-some, count-split, count-append, any-zero, sids-kept, held-once}
use Rattle.continuity.proofs.SeatedLemmas.{sockets-after}
use Rattle.continuity.proofs.KeptLemmas.{find-none}

-- ---- clients

and-true : (b : Bool) → (b && true) ≡ b
and-true true = refl
and-true false = refl

or-false : (b : Bool) → (b || false) ≡ b
or-false true = refl
or-false false = refl

-- a number is one of those that stay where it is one of all and stays
member-stays : (q : ℕ → Bool) (c : ℕ) (xs : List ℕ) → list_any (nat_eq c) (filter q xs) ≡ (list_any (nat_eq c) xs && q c)
member-stays q c [] = refl
member-stays q c (x ∷ xs) = on (q x) (nat_eq c x) refl refl (member-stays q c xs)
  where
    split : (a b : Bool) → (a || b) ≡ (a || b)
    split a b = refl

    on : (b e : Bool) → q x ≡ b → nat_eq c x ≡ e → list_any (nat_eq c) (filter q xs) ≡ (list_any (nat_eq c) xs && q c)
        → list_any (nat_eq c) (if b then x ∷ filter q xs else filter q xs) ≡ ((e || list_any (nat_eq c) xs) && q c)
    on true true s is rest = let same : c ≡ x = eqb-true c x is in ap (λ b. b || list_any (nat_eq c) (filter q xs)) is ∙ sym (ap q same ∙ s)
    on true false s is rest = ap (λ b. b || list_any (nat_eq c) (filter q xs)) is ∙ rest
    on false true s is rest = let same : c ≡ x = eqb-true c x is in let no_c : q c ≡ false = ap q same ∙ s in rest ∙ ap (λ b. list_any (nat_eq c) xs && b) no_c ∙ never (list_any (nat_eq c) xs) ∙ sym no_c
      where
        never : (b : Bool) → (b && false) ≡ false
        never true = refl
        never false = refl
    on false false s is rest = rest

module _ (base : PlainBase) where
  open-step : (step : Step) (before : List Step) (c : ℕ) → is_open base (step ∷ before) c ≡ ((is_open base before c && not (closes step.what c)) || list_any (nat_eq c) (opens step.what))
  unfolding is_open open_clients
  open-step step before c =
      list_any-append (nat_eq c) (filter (λ d. not (closes step.what d)) (open_clients base before)) (opens step.what)
      ∙ ap (λ b. b || list_any (nat_eq c) (opens step.what)) (member-stays (λ d. not (closes step.what d)) c (open_clients base before))

  opened : (a e : Bool) → ((a && true) || (e || false)) ≡ unwrap_or (if e then Some true else None) a
  opened true true = refl
  opened true false = refl
  opened false true = refl
  opened false false = refl

  shut : (a e : Bool) → ((a && not e) || false) ≡ unwrap_or (if e then Some false else None) a
  shut true true = refl
  shut true false = refl
  shut false true = refl
  shut false false = refl

  silent : (a : Bool) → ((a && true) || false) ≡ a
  silent true = refl
  silent false = refl

  open-word : (what : What) (c : ℕ) (a : Bool) → ((a && not (closes what c)) || list_any (nat_eq c) (opens what)) ≡ unwrap_or (client_word c what) a
  open-word (Opened d) c a = ap (λ e. (a && true) || (e || false)) (nat_eq_equiv.symm c d) ∙ opened a (d == c)
  open-word (Parked d) c a = shut a (d == c)
  open-word (Closed d) c a = shut a (d == c)
  open-word (Attached k) c a = silent a
  open-word (Recovered r) c a = silent a
  open-word (Joined t w) c a = silent a
  open-word (Left t w) c a = silent a
  open-word (AllJoined m) c a = silent a
  open-word (AllLeft m) c a = silent a
  open-word (Cast b) c a = silent a
  open-word (Told m) c a = silent a
  open-word (Took d m n) c a = silent a
  open-word (Ended t by) c a = silent a
  open-word (AllEnded d) c a = silent a
  open-word Swept c a = silent a

  -- a client is open where the last word on it says so
  pub last-open : (journal : List Step) (c : ℕ) → is_open base journal c ≡ is_last_open base journal c
  unfolding is_last_open
  last-open [] c = refl
  last-open (step ∷ before) c = open-step step before c ∙ open-word step.what c (is_open base before c) ∙ ap (unwrap_or (client_word c step.what)) (last-open before c)

-- ---- sockets

-- where at most one passes, and it isn't one of those that go, it is found as before
find-stays : {A : Type 0} (p q : A → Bool) (xs : List A) → count p xs ≤ 1 → list_any p (filter q xs) ≡ false → find p (filter (λ x. not (q x)) xs) ≡ find p xs
unfolding count
find-stays p q [] few none = refl
find-stays p q (x ∷ xs) few none = on (q x) (p x) refl few none (find-stays p q xs)
  where
    on : (b c : Bool) → p x ≡ c → one (p x) + count p xs ≤ 1 → list_any p (if b then x ∷ filter q xs else filter q xs) ≡ false
        → (count p xs ≤ 1 → list_any p (filter q xs) ≡ false → find p (filter (λ x. not (q x)) xs) ≡ find p xs)
        → find p (if not b then x ∷ filter (λ x. not (q x)) xs else filter (λ x. not (q x)) xs) ≡ (if p x then Some x else find p xs)
    on true true is few none rest = let wrong : true ≡ false = sym (ap (λ b. b || list_any p (filter q xs)) is) ∙ none in absurd (cc wrong)
    on true false is few none rest = rest (omega (arith, few)) (sym (ap (λ b. b || list_any p (filter q xs)) is) ∙ none) ∙ sym (ap (λ b. if b then Some x else find p xs) is)
    on false true is few none rest = ap (λ b. if b then Some x else find p (filter (λ x. not (q x)) xs)) is ∙ sym (ap (λ b. if b then Some x else find p xs) is)
    on false false is few none rest = ap (λ o. if p x then Some x else o) (rest (omega (arith, few)) none)

-- where at most one passes, and it is one of those that go, none is found
find-gone : {A : Type 0} (p q : A → Bool) (xs : List A) → count p xs ≤ 1 → list_any p (filter q xs) ≡ true → find p (filter (λ x. not (q x)) xs) ≡ None
find-gone p q xs few there =
    let some = count-some p (filter q xs) there in
    let split = count-split p q xs in
    find-none p (filter (λ x. not (q x)) xs) (any-zero p (filter (λ x. not (q x)) xs) (omega (arith, few, some, split)))

filter-true : (ks : List Socket) → filter (λ k. not false) ks ≡ ks
filter-true [] = refl
filter-true (k ∷ ks) = ap (λ l. k ∷ l) (filter-true ks)

module _ (base : PlainBase) (limits : Limits) (s : ℕ) where
  few-sids : (journal : List Step) → IsLegal base limits journal → count (has_id sid_of s) (sockets base journal) ≤ 1
  few-sids journal legal = let h = held-once base limits sid_of (λ (t : PlainSaved). t.sid) sids-kept journal legal s in omega (arith, h)

  found-with : (journal : List Step) → socket_with sid_of base journal s ≡ find (has_id sid_of s) (sockets base journal)
  unfolding socket_with
  found-with journal = refl

  -- a socket that comes
  comes : (ks : List Socket) (k : Socket) → count (has_id sid_of s) (ks ++ k ∷ []) ≤ 1 → find (has_id sid_of s) (ks ++ k ∷ []) ≡ unwrap_or (if k.sid == s then Some (Some k) else None) (find (has_id sid_of s) ks)
  unfolding count
  comes [] k few = on (k.sid == s)
    where
      on : (b : Bool) → (if b then Some k else None) ≡ unwrap_or (if b then Some (Some k) else None) None
      on true = refl
      on false = refl
  comes (j ∷ ks) k few = on (j.sid == s) (k.sid == s) refl few (comes ks k)
    where
      on : (b c : Bool) → (k.sid == s) ≡ c → one b + count (has_id sid_of s) (ks ++ k ∷ []) ≤ 1
          → (count (has_id sid_of s) (ks ++ k ∷ []) ≤ 1 → find (has_id sid_of s) (ks ++ k ∷ []) ≡ unwrap_or (if k.sid == s then Some (Some k) else None) (find (has_id sid_of s) ks))
          → (if b then Some j else find (has_id sid_of s) (ks ++ k ∷ [])) ≡ unwrap_or (if c then Some (Some k) else None) (if b then Some j else find (has_id sid_of s) ks)
      on true true is few rest =
          let push = count-append (has_id sid_of s) ks (k ∷ []) in
          let here : one (k.sid == s) ≡ 1 = ap one is in
          absurd (omega (arith, few, push, here))
      on true false is few rest = refl
      on false true is few rest = rest (omega (arith, few)) ∙ ap (λ c. unwrap_or (if c then Some (Some k) else None) (find (has_id sid_of s) ks)) is
      on false false is few rest = rest (omega (arith, few)) ∙ ap (λ c. unwrap_or (if c then Some (Some k) else None) (find (has_id sid_of s) ks)) is

  -- sockets that go
  goes : (q : Socket → Bool) (ks : List Socket) (e : Bool) → count (has_id sid_of s) ks ≤ 1 → list_any (has_id sid_of s) (filter q ks) ≡ e
      → find (has_id sid_of s) (filter (λ k. not (q k)) ks) ≡ unwrap_or (if e then Some None else None) (find (has_id sid_of s) ks)
  goes q ks true few there = find-gone (has_id sid_of s) q ks few there
  goes q ks false few there = find-stays (has_id sid_of s) q ks few there

  -- those with ids of a kind go
  goes-by : (r : ℕ → Bool) (ks : List Socket) (e : Bool) → r s ≡ e → find (has_id sid_of s) (filter (λ (k : Socket). not (r k.sid)) ks) ≡ unwrap_or (if e then Some None else None) (find (has_id sid_of s) ks)
  goes-by r [] true is = refl
  goes-by r [] false is = refl
  goes-by r (k ∷ ks) e is = on (k.sid == s) refl e is (goes-by r ks e is)
    where
      on : (b : Bool) → (k.sid == s) ≡ b → (e : Bool) → r s ≡ e → find (has_id sid_of s) (filter (λ (k : Socket). not (r k.sid)) ks) ≡ unwrap_or (if e then Some None else None) (find (has_id sid_of s) ks)
          → find (has_id sid_of s) (if not (r k.sid) then k ∷ filter (λ (k : Socket). not (r k.sid)) ks else filter (λ (k : Socket). not (r k.sid)) ks) ≡ unwrap_or (if e then Some None else None) (if b then Some k else find (has_id sid_of s) ks)
      on true same true is rest = let it : r k.sid ≡ true = ap r (eqb-true k.sid s same) ∙ is in rw it rest
      on true same false is rest = let it : r k.sid ≡ false = ap r (eqb-true k.sid s same) ∙ is in rw (it, same) refl
      on false other e is rest = skips (r k.sid) rest
        where
          skips : (c : Bool) → find (has_id sid_of s) (filter (λ (k : Socket). not (r k.sid)) ks) ≡ unwrap_or (if e then Some None else None) (find (has_id sid_of s) ks)
              → find (has_id sid_of s) (if not c then k ∷ filter (λ (k : Socket). not (r k.sid)) ks else filter (λ (k : Socket). not (r k.sid)) ks) ≡ unwrap_or (if e then Some None else None) (find (has_id sid_of s) ks)
          skips true rest = rest
          skips false rest = ap (λ b. if b then Some k else find (has_id sid_of s) (filter (λ (k : Socket). not (r k.sid)) ks)) other ∙ rest

  -- the sockets after a step that connects none
  left-after : (step : Step) (before : List Step) → connects step.what ≡ [] → sockets base (step ∷ before) ≡ filter (λ k. not (ends step.what k)) (sockets base before)
  left-after step before none = sockets-after base limits step before ∙ ap (λ l. filter (λ k. not (ends step.what k)) (sockets base before) ++ l) none ∙ append-nil (filter (λ k. not (ends step.what k)) (sockets base before))

  stays : (step : Step) (before : List Step) → connects step.what ≡ [] → ((k : Socket) → ends step.what k ≡ false) → find (has_id sid_of s) (sockets base (step ∷ before)) ≡ find (has_id sid_of s) (sockets base before)
  stays step before none same =
      ap (find (has_id sid_of s)) (left-after step before none ∙ (λ i. filter (λ k. not (same k i)) (sockets base before)) ∙ filter-true (sockets base before))

  come : (step : Step) (before : List Step) (k : Socket) → IsLegal base limits (step ∷ before) → sockets base (step ∷ before) ≡ sockets base before ++ k ∷ []
      → find (has_id sid_of s) (sockets base (step ∷ before)) ≡ unwrap_or (if k.sid == s then Some (Some k) else None) (find (has_id sid_of s) (sockets base before))
  come step before k legal are =
      ap (find (has_id sid_of s)) are ∙ comes (sockets base before) k (subst (λ ks. count (has_id sid_of s) ks ≤ 1) are (few-sids (step ∷ before) legal))

  socket-after : (at : ℕ) (before : List Step) (what : What) → IsLegal base limits (record { at = at; what = what } ∷ before) → IsLegal base limits before
      → find (has_id sid_of s) (sockets base (record { at = at; what = what } ∷ before)) ≡ unwrap_or (socket_word base before s what) (find (has_id sid_of s) (sockets base before))
  unfolding sockets_of
  socket-after at before (Attached k) legal legal' = come (record { at = at; what = Attached k }) before k legal (sockets-after base limits (record { at = at; what = Attached k }) before ∙ ap (λ l. l ++ k ∷ []) (filter-true (sockets base before)))
  socket-after at before (Recovered r) legal legal' = come (record { at = at; what = Recovered r }) before r.socket legal (sockets-after base limits (record { at = at; what = Recovered r }) before ∙ ap (λ l. l ++ r.socket ∷ []) (filter-true (sockets base before)))
  socket-after at before (Ended t by) legal legal' =
      ap (find (has_id sid_of s)) (left-after (record { at = at; what = Ended t by }) before refl) ∙ goes-by (λ x. x == t) (sockets base before) (t == s) (nat_eq_equiv.symm s t)
  socket-after at before (AllEnded d) legal legal' =
      ap (find (has_id sid_of s)) (left-after (record { at = at; what = AllEnded d }) before refl) ∙ goes-by (λ x. list_any (λ t. x == t) d.ended) (sockets base before) (list_any (λ t. s == t) d.ended) refl
  socket-after at before (Parked c) legal legal' =
      ap (find (has_id sid_of s)) (left-after (record { at = at; what = Parked c }) before refl) ∙ goes (λ (k : Socket). k.client == c) (sockets base before) (has_socket base before c s) (few-sids before legal') refl
  socket-after at before (Closed c) legal legal' =
      ap (find (has_id sid_of s)) (left-after (record { at = at; what = Closed c }) before refl) ∙ goes (λ (k : Socket). k.client == c) (sockets base before) (has_socket base before c s) (few-sids before legal') refl
  socket-after at before (Opened c) legal legal' = stays (record { at = at; what = Opened c }) before refl (λ k. refl)
  socket-after at before (Joined t w) legal legal' = stays (record { at = at; what = Joined t w }) before refl (λ k. refl)
  socket-after at before (Left t w) legal legal' = stays (record { at = at; what = Left t w }) before refl (λ k. refl)
  socket-after at before (AllJoined m) legal legal' = stays (record { at = at; what = AllJoined m }) before refl (λ k. refl)
  socket-after at before (AllLeft m) legal legal' = stays (record { at = at; what = AllLeft m }) before refl (λ k. refl)
  socket-after at before (Cast b) legal legal' = stays (record { at = at; what = Cast b }) before refl (λ k. refl)
  socket-after at before (Told m) legal legal' = stays (record { at = at; what = Told m }) before refl (λ k. refl)
  socket-after at before (Took c m n) legal legal' = stays (record { at = at; what = Took c m n }) before refl (λ k. refl)
  socket-after at before Swept legal legal' = stays (record { at = at; what = Swept }) before refl (λ k. refl)

  -- the connected socket with an id is the one that the last word on the id names
  pub last-connected : (journal : List Step) → IsLegal base limits journal → socket_with sid_of base journal s ≡ last_socket base journal s
  unfolding last_socket IsLegal
  last-connected [] legal = refl
  last-connected (step ∷ before) legal =
      found-with (step ∷ before) ∙ socket-after step.at before step.what legal legal.2
      ∙ ap (unwrap_or (socket_word base before s step.what)) (sym (found-with before) ∙ last-connected before legal.2)
