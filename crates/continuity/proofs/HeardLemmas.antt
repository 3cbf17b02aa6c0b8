-- A session that is true to what it heard has heard what is due to it.
use Rattle.std.proofs.Common.{◌≡◌, ℕ, ◌+◌, ◌<◌, ◌≤◌, ◌==◌, Bool, true, false, ◌&&◌, ◌||◌, not, List, [], ◌∷◌, ◌++◌, filter, refl, sym, ◌∙◌, ap, subst, arith, if◌then◌else◌, Option, None, Some, append-nil, append_assoc}
use Rattle.std.specs.List.{list_any, find}
use Rattle.std.specs.Option.{option_map_or, option_to_list}
use Rattle.std.proofs.lemmas.Bool.{eqb-true, eq-eqb}
use Rattle.std.proofs.lemmas.Cmp.{nat_eq_equiv}
use Rattle.room_maps.specs.Membership.{is_socket, is_in}
use Rattle.terms.specs.Audience as broadcast
use Rattle.recovery.specs.SavedTable.{PlainSaved}
use Rattle.recovery.specs.PacketLog.{number_of, stands}
use Rattle.journal.specs.declared.socket.Socket.{Socket}
use Rattle.journal.specs.declared.step.Step.{Step}
use Rattle.journal.specs.declared.step.What.{What}
use Rattle.journal.specs.declared.step.What.TheVariants.{Opened, Attached, Recovered, Joined, Left, AllJoined, AllLeft, Cast, Told, Took, Parked, Ended, AllEnded, Closed, Swept}
use Rattle.journal.specs.Plain.{PlainBase, Limits, PlainBroadcast, PlainRecovery}
use Rattle.journal.specs.Membership.{connects, sockets, sid_of, pid_of, has_id, socket_with, is_connected, rooms}
use Rattle.journal.specs.Sessions.{sessions, session_with}
use Rattle.journal.specs.Log.{log, next_number}
use Rattle.journal.specs.Outboxes.{is_addressed}
use Rattle.journal.specs.Totals.{is_spent}
use Rattle.journal.specs.Refusals.{recover_refusal}
use Rattle.journal.specs.Legal.{IsAllowed, IsLegal}
use Rattle.journal.proofs.SessionsLemmas.{is_some-find}
use Rattle.journal.proofs.CountsLemmas.{unrefused}
use Rattle.journal.proofs.CastLemmas.{any-filter}
use Rattle.journal.proofs.RecoverRefusalLemmas.{may-recover}
use Rattle.continuity.specs.Session.{Kept, kept_by_socket, kept_by_saved, is_for}
use Rattle.continuity.specs.Heard.{has, all_given, up_to, begins, is_put_for, heard_until, heard_after, heard, is_due, due_by, due_casts}
use Rattle.continuity.specs.Truly.{has_begun, is_true_name, is_missed_by, IsTrueReturn, IsTrueTo, NamesTruly}
use Rattle.continuity.proofs.IdsLemmas.{one, count}
use Rattle.continuity.proofs.SeatedLemmas.{seated}
use Rattle.continuity.proofs.LogLemmas.{orderly, legal-base, casts, has-append}
use Rattle.continuity.proofs.MissedLemmas.{past, own-missed, stands-below}
use Rattle.continuity.proofs.KeptLemmas.{KeepsAll, found-any, is_here, is_away, kept-here, here-is, was-here, was-kept, once, still-keeps}
use Rattle.continuity.proofs.DueLemmas.{up_to-front, or-left, or-right, passes, due-step, due-begins, due-above, due-past, due-all}

-- ---- one of a list

-- where at most one has the id, it has it with what is true of the one that is found
any-at-id : (p : ℕ) (g : Socket → Bool) (ks : List Socket) → count (has_id pid_of p) ks ≤ 1 → list_any (λ (k : Socket). k.pid == p && g k) ks ≡ option_map_or g (find (has_id pid_of p) ks) false
unfolding count
any-at-id p g [] few = refl
any-at-id p g (k ∷ ks) few = on (k.pid == p) few (any-at-id p g ks)
  where
    none : (ls : List Socket) → count (has_id pid_of p) ls ≡ 0 → list_any (λ (k : Socket). k.pid == p && g k) ls ≡ false
    none [] h = refl
    none (l ∷ ls) h = at (l.pid == p) h (none ls (omega (arith, h)))
      where
        at : (b : Bool) → one b + count (has_id pid_of p) ls ≡ 0 → list_any (λ (k : Socket). k.pid == p && g k) ls ≡ false → ((b && g l) || list_any (λ (k : Socket). k.pid == p && g k) ls) ≡ false
        at true h rest = absurd (omega (arith, h))
        at false h rest = rest

    or-false : (a b : Bool) → b ≡ false → (a || b) ≡ a
    or-false true b e = refl
    or-false false b e = e

    on : (b : Bool) → one b + count (has_id pid_of p) ks ≤ 1 → (count (has_id pid_of p) ks ≤ 1 → list_any (λ (k : Socket). k.pid == p && g k) ks ≡ option_map_or g (find (has_id pid_of p) ks) false)
        → ((b && g k) || list_any (λ (k : Socket). k.pid == p && g k) ks) ≡ option_map_or g (if b then Some k else find (has_id pid_of p) ks) false
    on true few rest = or-false (g k) (list_any (λ (k : Socket). k.pid == p && g k) ks) (none ks (omega (arith, few)))
    on false few rest = rest (omega (arith, few))

-- one that is found by its private id is there by its session id
found-sid : (p : ℕ) (ks : List Socket) (k : Socket) → find (has_id pid_of p) ks ≡ Some k → list_any (has_id sid_of k.sid) ks ≡ true
found-sid p [] k e = cc
found-sid p (l ∷ ks) k e = on (l.pid == p) e (found-sid p ks k)
  where
    either : (b : Bool) → (b || true) ≡ true
    either true = refl
    either false = refl

    on : (b : Bool) → (if b then Some l else find (has_id pid_of p) ks) ≡ Some k → (find (has_id pid_of p) ks ≡ Some k → list_any (has_id sid_of k.sid) ks ≡ true)
        → ((l.sid == k.sid) || list_any (has_id sid_of k.sid) ks) ≡ true
    on true e rest = let same : l ≡ k = cc in ap (λ b. b || list_any (has_id sid_of k.sid) ks) (eq-eqb l.sid k.sid (ap sid_of same))
    on false e rest = ap (λ b. (l.sid == k.sid) || b) (rest e) ∙ either (l.sid == k.sid)

module _ (base : PlainBase) (limits : Limits) (p : ℕ) where
  abbrev hears : List Step → List ℕ
  hears journal = heard base limits journal p

  abbrev due : List Step → List ℕ
  due journal = due_casts base limits journal p

  -- while the session is connected it has heard what is due; while it is lost, a beginning of that
  pub record Hears (journal : List Step) : Type 0 where
    pub all : is_here base limits p journal ≡ true → hears journal ≡ due journal
    pub some : (is_here base limits p journal || is_away base limits p journal) ≡ true → (rest : List ℕ) × (hears journal ++ rest ≡ due journal)

  hears-step : (step : Step) (before : List Step) → hears (step ∷ before) ≡ heard_after base limits before p (hears before) step.what
  unfolding heard
  hears-step step before = refl

  -- ---- a step of which the session hears nothing

  quiet : (step : Step) (before : List Step) → IsLegal base limits before → heard_after base limits before p (hears before) step.what ≡ hears before → due_by base limits before p step.what ≡ [] → begins p step.what ≡ false
      → list_any (has_id pid_of p) (connects step.what) ≡ false → Hears before → Hears (step ∷ before)
  quiet step before legal same nothing other none was =
      let h : hears (step ∷ before) ≡ hears before = hears-step step before ∙ same in
      let d : due (step ∷ before) ≡ due before = due-step base limits p step before other ∙ ap (λ l. due before ++ l) nothing ∙ append-nil (due before) in
      record {
        all = λ here. h ∙ was.all (was-here base limits p step before none here) ∙ sym d;
        some = λ there. (let r = was.some (was-kept base limits p step before legal none there) in (r.0, ap (λ l. l ++ r.0) h ∙ r.1 ∙ sym d));
      }

  -- ---- a broadcast

  -- the broadcast is put for the connected session where it is for it and isn't dropped
  put-is : (before : List Step) → IsLegal base limits before → (b : PlainBroadcast) (k : Socket) → socket_with pid_of base before p ≡ Some k
      → is_put_for base before p b ≡ (is_for b (kept_by_socket base before k) && not (list_any (λ s. s == k.sid) b.dropped))
  unfolding socket_with
  put-is before legal b k found =
      let few = once base limits p before legal in
      let known : is_socket (rooms base before) k.sid ≡ true = seated base limits before legal k.sid (found-sid p (sockets base before) k found) in
      any-filter (has_id pid_of p) (λ (l : Socket). is_addressed base before b l && not (list_any (λ s. s == l.sid) b.dropped)) (sockets base before)
      ∙ any-at-id p (λ (l : Socket). is_addressed base before b l && not (list_any (λ s. s == l.sid) b.dropped)) (sockets base before) (omega (arith, few))
      ∙ ap (λ o. option_map_or (λ (l : Socket). is_addressed base before b l && not (list_any (λ s. s == l.sid) b.dropped)) o false) found
      ∙ ap (λ c. (k.space == b.space && (c && broadcast.is_for b.rooms b.excepted (is_in (rooms base before) k.sid))) && not (list_any (λ s. s == k.sid) b.dropped)) known
      ∙ ap (λ c. (c && broadcast.is_for b.rooms b.excepted (is_in (rooms base before) k.sid)) && not (list_any (λ s. s == k.sid) b.dropped)) (nat_eq_equiv.symm k.space b.space)

  dropped-is : (before : List Step) → IsLegal base limits before → (b : PlainBroadcast) (k : Socket) (x : ℕ) → socket_with pid_of base before p ≡ Some k → b.offset ≡ Some x
      → is_missed_by base before p b ≡ list_any (λ s. s == k.sid) b.dropped
  unfolding socket_with
  dropped-is before legal b k x found e =
      let few = once base limits p before legal in
      ap (λ y. option_map_or (λ o. list_any (λ (l : Socket). l.pid == p && list_any (λ s. s == l.sid) b.dropped) (sockets base before)) y false) e
      ∙ any-at-id p (λ (l : Socket). list_any (λ s. s == l.sid) b.dropped) (sockets base before) (omega (arith, few))
      ∙ ap (λ o. option_map_or (λ (l : Socket). list_any (λ s. s == l.sid) b.dropped) o false) found

  -- to one who is connected is put just what is due
  heard-cast : (before : List Step) → IsLegal base limits before → (b : PlainBroadcast) → is_missed_by base before p b ≡ false → is_here base limits p before ≡ true
      → (if is_put_for base before p b then hears before ++ option_to_list b.offset else hears before) ≡ hears before ++ due_by base limits before p (Cast b)
  heard-cast before legal b taken here = on b.offset refl
    where
      shape : (c : Bool) (l m : List ℕ) → (if c then l ++ m else l) ≡ l ++ (if c then m else [])
      shape true l m = refl
      shape false l m = sym (append-nil l)

      nothing : (c : Bool) → (let none : List ℕ = [] in if c then none else none) ≡ []
      nothing true = refl
      nothing false = refl

      and-true : (c : Bool) → (c && true) ≡ c
      and-true true = refl
      and-true false = refl

      on : (y : Option ℕ) → b.offset ≡ y → (if is_put_for base before p b then hears before ++ option_to_list b.offset else hears before) ≡ hears before ++ due_by base limits before p (Cast b)
      on None e =
          shape (is_put_for base before p b) (hears before) (option_to_list b.offset)
          ∙ ap (λ y. hears before ++ (if is_put_for base before p b then option_to_list y else [])) e
          ∙ ap (λ l. hears before ++ l) (nothing (is_put_for base before p b) ∙ sym (nothing (is_due base limits before p b)))
          ∙ ap (λ y. hears before ++ (if is_due base limits before p b then option_to_list y else [])) (sym e)
      on (Some x) e =
          let found = here-is base limits p before here in
          let k = found.0 in
          let put : is_put_for base before p b ≡ is_due base limits before p b
          = put-is before legal b k found.1
          ∙ ap (λ c. is_for b (kept_by_socket base before k) && not c) (sym (dropped-is before legal b k x found.1 e) ∙ taken)
          ∙ and-true (is_for b (kept_by_socket base before k))
          ∙ sym (ap (λ o. option_map_or (is_for b) o false) (kept-here base limits p before k found.1)) in
          shape (is_put_for base before p b) (hears before) (option_to_list b.offset)
          ∙ ap (λ c. hears before ++ (if c then option_to_list b.offset else [])) put

  -- to one who isn't, nothing is put
  nothing-put : (before : List Step) (b : PlainBroadcast) → is_here base limits p before ≡ false → is_put_for base before p b ≡ false
  nothing-put before b none =
      any-filter (has_id pid_of p) (λ (l : Socket). is_addressed base before b l && not (list_any (λ s. s == l.sid) b.dropped)) (sockets base before)
      ∙ no-more (sockets base before) none
    where
      no-more : (ks : List Socket) → list_any (has_id pid_of p) ks ≡ false → list_any (λ (l : Socket). has_id pid_of p l && (is_addressed base before b l && not (list_any (λ s. s == l.sid) b.dropped))) ks ≡ false
      no-more [] e = refl
      no-more (k ∷ ks) e = at (k.pid == p) e (no-more ks)
        where
          at : (c : Bool) → (c || list_any (has_id pid_of p) ks) ≡ false → (list_any (has_id pid_of p) ks ≡ false → list_any (λ (l : Socket). has_id pid_of p l && (is_addressed base before b l && not (list_any (λ s. s == l.sid) b.dropped))) ks ≡ false)
              → ((c && (is_addressed base before b k && not (list_any (λ s. s == k.sid) b.dropped))) || list_any (λ (l : Socket). has_id pid_of p l && (is_addressed base before b l && not (list_any (λ s. s == l.sid) b.dropped))) ks) ≡ false
          at true e rest = absurd (cc e)
          at false e rest = rest e

  cast-heard : (at : ℕ) (before : List Step) → IsLegal base limits before → (b : PlainBroadcast) → is_missed_by base before p b ≡ false → Hears before → Hears (record { at = at; what = Cast b } ∷ before)
  cast-heard at before legal b taken was =
      let step : Step = record { at = at; what = Cast b } in
      let d = due-step base limits p step before refl in
      let h = hears-step step before in record {
        all = λ here. (let here' = was-here base limits p step before refl here in h ∙ heard-cast before legal b taken here' ∙ ap (λ l. l ++ due_by base limits before p (Cast b)) (was.all here') ∙ sym d);
        some = λ there. on (is_here base limits p before) refl (was-kept base limits p step before legal refl there);
      }
    where
      on : (c : Bool) → is_here base limits p before ≡ c → (is_here base limits p before || is_away base limits p before) ≡ true → (rest : List ℕ) × (hears (record { at = at; what = Cast b } ∷ before) ++ rest ≡ due (record { at = at; what = Cast b } ∷ before))
      on true here there = (
        [],
        append-nil (hears (record { at = at; what = Cast b } ∷ before)) ∙ hears-step (record { at = at; what = Cast b }) before ∙ heard-cast before legal b taken here
            ∙ ap (λ l. l ++ due_by base limits before p (Cast b)) (was.all here) ∙ sym (due-step base limits p (record { at = at; what = Cast b }) before refl),
      )
      on false gone there =
          let r = was.some there in (
            r.0 ++ due_by base limits before p (Cast b),
            ap (λ l. l ++ (r.0 ++ due_by base limits before p (Cast b))) (hears-step (record { at = at; what = Cast b }) before ∙ ap (λ c. if c then hears before ++ option_to_list b.offset else hears before) (nothing-put before b gone))
                ∙ sym (append_assoc (hears before) r.0 (due_by base limits before p (Cast b)))
                ∙ ap (λ l. l ++ due_by base limits before p (Cast b)) r.1
                ∙ sym (due-step base limits p (record { at = at; what = Cast b }) before refl),
          )

  -- ---- a return

  base-low : (journal : List Step) → IsLegal base limits journal → (o : ℕ) → stands o (log base limits []) ≡ true → o < number_of base.next
  unfolding casts
  base-low journal legal o e =
      let first = orderly base limits [] (legal-base base limits journal legal) in
      let n = first.number in
      let low = stands-below (next_number base []) o (log base limits []) first.run e in omega (arith, n, low)

  and-right : (a : Bool) → (a && false) ≡ false
  and-right true = refl
  and-right false = refl

  or-false : (a : Bool) → (a || false) ≡ a
  or-false true = refl
  or-false false = refl

  is-not : (a : Bool) → (not a && true) ≡ true → a ≡ false
  is-not true e = cc
  is-not false e = refl

  some-heard : (xs ys : List ℕ) (o : ℕ) → has xs o ≡ true → has (xs ++ ys) o ≡ true
  some-heard xs ys o e = has-append xs ys o ∙ ap (λ b. b || has ys o) e

  -- one who comes back has heard what was due
  returns : (at : ℕ) (before : List Step) → IsLegal base limits before → (r : PlainRecovery) → IsAllowed base limits before (record { at = at; what = Recovered r }) (Recovered r) → r.socket.pid ≡ p
      → IsTrueReturn base limits before p r.offset → Hears before → heard_until base limits r.offset (hears before) ++ filter (has (all_given before)) r.missed ≡ due before
  returns at before legal r allowed same true_to was =
      let right = allowed.1 in
      let may = may-recover base limits before r.socket.client r.socket.space r.socket.pid r.offset at (unrefused (recover_refusal base limits before r.socket.client r.socket.space r.socket.pid r.offset at) (is_spent base limits before (Recovered r)) (sym allowed.0)) in
      let s : PlainSaved = record { sid = r.socket.sid; pid = r.socket.pid; space = r.socket.space; rooms = r.rooms; lost_at = right.lost_at } in
      let found : session_with p (sessions base limits before) ≡ Some s = subst (λ q. session_with q (sessions base limits before) ≡ Some s) same right.session in
      let keeps = still-keeps base limits p r.offset before s legal found true_to.same_rooms in
      let own : filter (has (all_given before)) r.missed ≡ past r.offset (passes (kept_by_saved s)) (casts before)
      = ap (filter (has (all_given before))) right.missed_is ∙ own-missed base limits before (orderly base limits before legal) r.offset (passes (kept_by_saved s)) may.reaches in
      let away : is_away base limits p before ≡ true = found-any (λ (t : PlainSaved). t.pid == p) (sessions base limits before) s found in
      let there : (is_here base limits p before || is_away base limits p before) ≡ true = ap (λ b. is_here base limits p before || b) away ∙ or-true (is_here base limits p before) in
      ap (λ l. heard_until base limits r.offset (hears before) ++ l) own
      ∙ from (kept_by_saved s) r.offset keeps true_to.named (was.some there) (stands r.offset (log base limits [])) refl
    where
      or-true : (a : Bool) → (a || true) ≡ true
      or-true true = refl
      or-true false = refl

      from : (k : Kept) (o : ℕ) → KeepsAll base limits p o (Some k) before → is_true_name base limits before p o ≡ true → (rest : List ℕ) × (hears before ++ rest ≡ due before)
          → (b : Bool) → stands o (log base limits []) ≡ b → heard_until base limits o (hears before) ++ past o (passes k) (casts before) ≡ due before
      from k o keeps named r true stood =
          let low = base-low before legal o stood in
          let unheard : has (hears before) o ≡ false = fresh (has (hears before) o) refl low r in
          let never : has_begun before p ≡ false
          = is-not (has_begun before p) (ap (λ b. not (has_begun before p) && b) (sym stood) ∙ or-right (has (hears before) o) (not (has_begun before p) && stands o (log base limits [])) named unheard) in
          ap (λ b. (if b then [] else up_to o (hears before)) ++ past o (passes k) (casts before)) stood
          ∙ due-all base limits p o k before legal low never keeps
        where
          fresh : (b : Bool) → has (hears before) o ≡ b → o < number_of base.next → (rest : List ℕ) × (hears before ++ rest ≡ due before) → b ≡ false
          fresh true e low r =
              let high = due-above base limits p before legal o (ap (λ l. has l o) (sym r.1) ∙ some-heard (hears before) r.0 o e) in
              absurd (omega (arith, high, low))
          fresh false e low r = refl
      from k o keeps named r false stood =
          let heard_it : has (hears before) o ≡ true
          = or-left (has (hears before) o) (not (has_begun before p) && stands o (log base limits [])) named (ap (λ b. not (has_begun before p) && b) stood ∙ and-right (not (has_begun before p))) in
          let due_it : has (due before) o ≡ true = ap (λ l. has l o) (sym r.1) ∙ some-heard (hears before) r.0 o heard_it in
          ap (λ b. (if b then [] else up_to o (hears before)) ++ past o (passes k) (casts before)) stood
          ∙ ap (λ l. l ++ past o (passes k) (casts before)) (sym (up_to-front o (hears before) r.0 heard_it) ∙ ap (up_to o) r.1)
          ∙ due-past base limits p o k before legal keeps due_it

  return-heard : (at : ℕ) (before : List Step) → IsLegal base limits before → (r : PlainRecovery) → IsAllowed base limits before (record { at = at; what = Recovered r }) (Recovered r)
      → (r.socket.pid ≡ p → IsTrueReturn base limits before p r.offset) → Hears before → Hears (record { at = at; what = Recovered r } ∷ before)
  return-heard at before legal r allowed true_to was = on (r.socket.pid == p) refl
    where
      on : (b : Bool) → (r.socket.pid == p) ≡ b → Hears (record { at = at; what = Recovered r } ∷ before)
      on true e =
          let same : r.socket.pid ≡ p = eqb-true r.socket.pid p e in
          let is : hears (record { at = at; what = Recovered r } ∷ before) ≡ due (record { at = at; what = Recovered r } ∷ before)
          = hears-step (record { at = at; what = Recovered r }) before
          ∙ ap (λ b. if b then heard_until base limits r.offset (hears before) ++ filter (has (all_given before)) r.missed else hears before) e
          ∙ returns at before legal r allowed same (true_to same) was
          ∙ sym (append-nil (due before))
          ∙ sym (due-step base limits p (record { at = at; what = Recovered r }) before refl) in
          record { all = λ here. is; some = λ there. ([], append-nil (hears (record { at = at; what = Recovered r } ∷ before)) ∙ is) }
      on false e =
          quiet (record { at = at; what = Recovered r }) before legal
          (ap (λ b. if b then heard_until base limits r.offset (hears before) ++ filter (has (all_given before)) r.missed else hears before) e)
          refl refl (ap (λ b. b || false) e) was

  -- ---- all steps

  begun-heard : (step : Step) (before : List Step) → begins p step.what ≡ true → hears (step ∷ before) ≡ [] → Hears (step ∷ before)
  begun-heard step before e none =
      let is : hears (step ∷ before) ≡ due (step ∷ before) = none ∙ sym (due-begins base limits p step before e) in
      record { all = λ here. is; some = λ there. ([], append-nil (hears (step ∷ before)) ∙ is) }

  attach-heard : (at : ℕ) (k : Socket) (before : List Step) → IsLegal base limits before → (begins p (Attached k) ≡ false → Hears before) → Hears (record { at = at; what = Attached k } ∷ before)
  attach-heard at k before legal was = on (k.pid == p) refl
    where
      on : (b : Bool) → (k.pid == p) ≡ b → Hears (record { at = at; what = Attached k } ∷ before)
      on true e =
          begun-heard (record { at = at; what = Attached k }) before e
          (hears-step (record { at = at; what = Attached k }) before ∙ ap (λ b. if b then [] else hears before) e)
      on false e =
          quiet (record { at = at; what = Attached k }) before legal (ap (λ b. if b then [] else hears before) e) refl e (ap (λ b. b || false) e) (was e)

  hears-after : (at : ℕ) (before : List Step) → IsLegal base limits before → (what : What) → IsAllowed base limits before (record { at = at; what = what }) what
      → (begins p what ≡ false → IsTrueTo base limits before p what) → (begins p what ≡ false → Hears before) → Hears (record { at = at; what = what } ∷ before)
  hears-after at before legal (Attached k) allowed true_to was = attach-heard at k before legal was
  hears-after at before legal (Recovered r) allowed true_to was = return-heard at before legal r allowed (true_to refl) (was refl)
  hears-after at before legal (Cast b) allowed true_to was = cast-heard at before legal b (true_to refl) (was refl)
  hears-after at before legal (Opened c) allowed true_to was = quiet (record { at = at; what = Opened c }) before legal refl refl refl refl (was refl)
  hears-after at before legal (Joined t w) allowed true_to was = quiet (record { at = at; what = Joined t w }) before legal refl refl refl refl (was refl)
  hears-after at before legal (Left t w) allowed true_to was = quiet (record { at = at; what = Left t w }) before legal refl refl refl refl (was refl)
  hears-after at before legal (AllJoined m) allowed true_to was = quiet (record { at = at; what = AllJoined m }) before legal refl refl refl refl (was refl)
  hears-after at before legal (AllLeft m) allowed true_to was = quiet (record { at = at; what = AllLeft m }) before legal refl refl refl refl (was refl)
  hears-after at before legal (Told m) allowed true_to was = quiet (record { at = at; what = Told m }) before legal refl refl refl refl (was refl)
  hears-after at before legal (Took c m n) allowed true_to was = quiet (record { at = at; what = Took c m n }) before legal refl refl refl refl (was refl)
  hears-after at before legal (Parked c) allowed true_to was = quiet (record { at = at; what = Parked c }) before legal refl refl refl refl (was refl)
  hears-after at before legal (Ended t by) allowed true_to was = quiet (record { at = at; what = Ended t by }) before legal refl refl refl refl (was refl)
  hears-after at before legal (AllEnded d) allowed true_to was = quiet (record { at = at; what = AllEnded d }) before legal refl refl refl refl (was refl)
  hears-after at before legal (Closed c) allowed true_to was = quiet (record { at = at; what = Closed c }) before legal refl refl refl refl (was refl)
  hears-after at before legal Swept allowed true_to was = quiet (record { at = at; what = Swept }) before legal refl refl refl refl (was refl)

  base-heard : Hears []
  unfolding heard due_casts
  base-heard = record { all = λ here. refl; some = λ there. ([], refl) }

  pub hears-all : (journal : List Step) → IsLegal base limits journal → NamesTruly base limits journal p → Hears journal
  unfolding IsLegal NamesTruly
  hears-all [] legal truly = base-heard
  hears-all (step ∷ before) legal truly =
      hears-after step.at before legal.2 step.what legal.0 (λ e. (truly e).0) (λ e. hears-all before legal.2 (truly e).1)

  -- while it is connected, what a session has heard is what is due to it
  pub heard-is-due : (journal : List Step) → IsLegal base limits journal → NamesTruly base limits journal p → is_connected pid_of base journal p ≡ true → heard base limits journal p ≡ due_casts base limits journal p
  unfolding socket_with
  heard-is-due journal legal truly here = (hears-all journal legal truly).all (sym (is_some-find (has_id pid_of p) (sockets base journal)) ∙ here)
