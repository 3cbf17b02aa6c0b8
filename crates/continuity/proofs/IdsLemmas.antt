-- In a legal journal no id is held twice by connected sockets and saved sessions, and the rooms know each connected socket.
use Rattle.std.proofs.Common.{◌≡◌, ◌≢◌, ℕ, ◌+◌, ◌≤◌, ◌==◌, Bool, true, false, ◌||◌, not, List, [], ◌∷◌, ◌++◌, filter, map, refl, sym, ◌∙◌, ap, subst, arith, if◌then◌else◌, None, Some, nat_lt}
use Rattle.std.specs.Prelude.{is_some}
use Rattle.std.specs.List.{list_any, AllByRecursion}
use Rattle.std.proofs.lemmas.Bool.{eqb-true}
use Rattle.recovery.specs.SavedTable.{PlainSaved, with_session}
use Rattle.recovery.specs.Expiry.{is_outdated}
use Rattle.journal.specs.declared.socket.Socket.{Socket}
use Rattle.journal.specs.declared.step.Step.{Step}
use Rattle.journal.specs.declared.step.What.{What}
use Rattle.journal.specs.declared.step.What.TheVariants.{Opened, Attached, Recovered, Joined, Left, AllJoined, AllLeft, Cast, Told, Took, Parked, Ended, AllEnded, Closed, Swept}
use Rattle.journal.specs.Plain.{PlainBase, Limits, PlainRecovery}
use Rattle.journal.specs.Membership.{connects, ends, sockets, sid_of, pid_of, has_id, socket_with, sockets_of}
use Rattle.journal.specs.Sessions.{sessions, sessions_after, lost_session, with_sessions, session_with}
use Rattle.journal.specs.Refusals.{attach_refusal}
use Rattle.journal.specs.Totals.{is_spent}
use Rattle.journal.specs.Legal.{IsAllowed, IsLegal, IsSound, IsAway, EachTwo, AreApart, DifferInIds, RightRecovery}
use Rattle.journal.proofs.SessionsLemmas.{is_some-find}
use Rattle.journal.proofs.SocketsLemmas.{may-attach}
use Rattle.journal.proofs.CountsLemmas.{unrefused}

-- ---- how many pass

abbrev pub one : Bool → ℕ
one true = 1
one false = 0

unfoldable pub count : {A : Type 0} → (A → Bool) → List A → ℕ
count p [] = 0
count p (x ∷ xs) = one (p x) + count p xs

pub count-append : {A : Type 0} (p : A → Bool) (xs ys : List A) → count p (xs ++ ys) ≡ count p xs + count p ys
unfolding count
count-append p [] ys = omega arith
count-append p (x ∷ xs) ys = let h = count-append p xs ys in omega (arith, h)

pub count-split : {A : Type 0} (p q : A → Bool) (xs : List A) → count p (filter q xs) + count p (filter (λ x. not (q x)) xs) ≡ count p xs
unfolding count
count-split p q [] = refl
count-split p q (x ∷ xs) = on (q x) (count-split p q xs)
  where
    on : (b : Bool) → count p (filter q xs) + count p (filter (λ x. not (q x)) xs) ≡ count p xs
        → count p (if b then x ∷ filter q xs else filter q xs) + count p (if not b then x ∷ filter (λ x. not (q x)) xs else filter (λ x. not (q x)) xs) ≡ one (p x) + count p xs
    on true h = omega (arith, h)
    on false h = omega (arith, h)

pub count-filter : {A : Type 0} (p q : A → Bool) (xs : List A) → count p (filter q xs) ≤ count p xs
count-filter p q xs = let h = count-split p q xs in omega (arith, h)

pub count-none : {A : Type 0} (p : A → Bool) (xs : List A) → list_any p xs ≡ false → count p xs ≡ 0
unfolding count
count-none p [] e = refl
count-none p (x ∷ xs) e = on (p x) e (count-none p xs)
  where
    on : (b : Bool) → (b || list_any p xs) ≡ false → (list_any p xs ≡ false → count p xs ≡ 0) → one b + count p xs ≡ 0
    on true h rest = absurd (cc h)
    on false h rest = let z = rest h in omega (arith, z)

pub count-some : {A : Type 0} (p : A → Bool) (xs : List A) → list_any p xs ≡ true → 1 ≤ count p xs
unfolding count
count-some p [] e = absurd (cc e)
count-some p (x ∷ xs) e = on (p x) e (count-some p xs)
  where
    on : (b : Bool) → (b || list_any p xs) ≡ true → (list_any p xs ≡ true → 1 ≤ count p xs) → 1 ≤ one b + count p xs
    on true h rest = omega arith
    on false h rest = let z = rest h in omega (arith, z)

pub any-zero : {A : Type 0} (p : A → Bool) (xs : List A) → count p xs ≡ 0 → list_any p xs ≡ false
any-zero p xs e = on (list_any p xs) refl
  where
    on : (b : Bool) → list_any p xs ≡ b → b ≡ false
    on true h = let z = count-some p xs h in absurd (omega (arith, z, e))
    on false h = refl

pub any-one : {A : Type 0} (p : A → Bool) (xs : List A) → 1 ≤ count p xs → list_any p xs ≡ true
any-one p xs e = on (list_any p xs) refl
  where
    on : (b : Bool) → list_any p xs ≡ b → b ≡ true
    on true h = refl
    on false h = let z = count-none p xs h in absurd (omega (arith, z, e))

pub count-with : (p : PlainSaved → Bool) (s : PlainSaved) (ss : List PlainSaved) → count p (with_session s ss) ≡ one (p s) + count p ss
unfolding count
count-with p s [] = refl
count-with p s (t ∷ ss) = on (nat_lt s.pid t.pid) (count-with p s ss)
  where
    on : (b : Bool) → count p (with_session s ss) ≡ one (p s) + count p ss → count p (if b then s ∷ t ∷ ss else t ∷ with_session s ss) ≡ one (p s) + (one (p t) + count p ss)
    on true h = refl
    on false h = omega (arith, h)

pub count-with-all : (p : PlainSaved → Bool) (ns ss : List PlainSaved) → count p (with_sessions ns ss) ≡ count p ns + count p ss
unfolding count
count-with-all p [] ss = omega arith
count-with-all p (n ∷ ns) ss = let h = count-with-all p ns (with_session n ss) in let k = count-with p n ss in omega (arith, h, k)

-- where what passes has another id than each that follows it, at most one has an id
at-most-one : {A : Type 0} (R : A → A → Type 0) (id : A → ℕ) → ((x y : A) → R x y → id x ≢ id y) → (n : ℕ) (xs : List A) → EachTwo R xs → count (λ x. id x == n) xs ≤ 1
unfolding EachTwo count
at-most-one R id apart n [] h = omega arith
at-most-one R id apart n (x ∷ xs) h = on (id x == n) refl (at-most-one R id apart n xs h.1)
  where
    others : (ys : List _) → AllByRecursion (R x) ys → id x ≡ n → count (λ y. id y == n) ys ≡ 0
    others [] all e = refl
    others (y ∷ ys) all e =
        let no : (id y == n) ≡ false = (let d = apart x y all.0 in other (id y == n) refl (λ same. d (e ∙ sym same))) in
        let rest = others ys all.1 e in
        let none : one (id y == n) ≡ 0 = ap one no in omega (arith, none, rest)
      where
        other : (b : Bool) → (id y == n) ≡ b → (id y ≢ n) → b ≡ false
        other true is d = absurd (d (eqb-true (id y) n is))
        other false is d = refl

    on : (b : Bool) → (id x == n) ≡ b → count (λ y. id y == n) xs ≤ 1 → one b + count (λ y. id y == n) xs ≤ 1
    on true is h' = let z = others xs h.0 (eqb-true (id x) n is) in omega (arith, z)
    on false is h' = omega (arith, h')

-- ---- ids

-- an id of sockets, and the same of sessions, which a lost socket keeps
pub record IsKeptId (id : Socket → ℕ) (of : PlainSaved → ℕ) : Type 0 where
  pub keeps : (base : PlainBase) (before : List Step) (at : ℕ) (k : Socket) → of (lost_session base before at k) ≡ id k
  pub apart : (k l : Socket) → AreApart k l → id k ≢ id l
  pub differ : (s t : PlainSaved) → DifferInIds s t → of s ≢ of t
  pub away : (ks : List Socket) (s : PlainSaved) → IsAway ks s → list_any (λ (k : Socket). id k == of s) ks ≡ false
  pub new : (base : PlainBase) (limits : Limits) (before : List Step) (k : Socket) → attach_refusal base limits before k ≡ None
      → (socket_with id base before (id k) ≡ None) × (list_any (λ (s : PlainSaved). of s == id k) (sessions base limits before) ≡ false)
  pub back : (s : PlainSaved) (k : Socket) → s.sid ≡ k.sid → s.pid ≡ k.pid → of s ≡ id k

pub sids-kept : IsKeptId sid_of (λ s. s.sid)
sids-kept = record {
  keeps = λ base before at k. refl;
  apart = λ k l h. h.0;
  differ = λ s t h. h.0;
  away = λ ks s h. h.0;
  new = λ base limits before k e. (let may = may-attach base limits before k e in (may.new_sid, may.unsaved_sid));
  back = λ s k e f. e;
}

pub pids-kept : IsKeptId pid_of (λ s. s.pid)
pids-kept = record {
  keeps = λ base before at k. refl;
  apart = λ k l h. h.1;
  differ = λ s t h. h.1;
  away = λ ks s h. h.1;
  new = λ base limits before k e. (let may = may-attach base limits before k e in (may.new_pid, may.unsaved_pid));
  back = λ s k e f. f;
}

module _ (base : PlainBase) (limits : Limits) (id : Socket → ℕ) (of : PlainSaved → ℕ) (kept : IsKeptId id of) where
  -- how many sockets and sessions have the id
  abbrev pub holders : List Step → ℕ → ℕ
  holders journal x = count (has_id id x) (sockets base journal) + count (λ (s : PlainSaved). of s == x) (sessions base limits journal)

  none-connected : (before : List Step) (x : ℕ) → socket_with id base before x ≡ None → count (has_id id x) (sockets base before) ≡ 0
  unfolding socket_with
  none-connected before x e = count-none (has_id id x) (sockets base before) (sym (is_some-find (has_id id x) (sockets base before)) ∙ ap is_some e)

  pub lost-count : (before : List Step) (at x : ℕ) (ks : List Socket) → count (λ (s : PlainSaved). of s == x) (map (lost_session base before at) ks) ≡ count (has_id id x) ks
  unfolding count
  lost-count before at x [] = refl
  lost-count before at x (k ∷ ks) =
      (λ i. one (kept.keeps base before at k i == x) + count (λ (s : PlainSaved). of s == x) (map (lost_session base before at) ks))
      ∙ ap (λ n. one (id k == x) + n) (lost-count before at x ks)

  taken-out : (x p : ℕ) (s : PlainSaved) (ss : List PlainSaved) → session_with p ss ≡ Some s → one (of s == x) ≤ count (λ (t : PlainSaved). of t == x) (filter (λ (t : PlainSaved). t.pid == p) ss)
  unfolding count
  taken-out x p s [] e = cc
  taken-out x p s (t ∷ ss) e = on (t.pid == p) e (taken-out x p s ss)
    where
      on : (b : Bool) → (if b then Some t else session_with p ss) ≡ Some s → (session_with p ss ≡ Some s → one (of s == x) ≤ count (λ (t : PlainSaved). of t == x) (filter (λ (t : PlainSaved). t.pid == p) ss))
          → one (of s == x) ≤ count (λ (t : PlainSaved). of t == x) (if b then t ∷ filter (λ (t : PlainSaved). t.pid == p) ss else filter (λ (t : PlainSaved). t.pid == p) ss)
      on true is rest = let same : t ≡ s = cc in subst (λ (z : PlainSaved). one (of z == x) ≤ one (of t == x) + count (λ (t : PlainSaved). of t == x) (filter (λ (t : PlainSaved). t.pid == p) ss)) same (omega arith)
      on false is rest = rest is

  module _ (step : Step) (before : List Step) where
    pub sockets-are : sockets base (step ∷ before) ≡ filter (λ k. not (ends step.what k)) (sockets base before) ++ connects step.what
    unfolding sockets
    sockets-are = refl

    pub sessions-are : sessions base limits (step ∷ before) ≡ sessions_after base limits before step.at (sessions base limits before) step.what
    unfolding sessions
    sessions-are = refl

    -- a step that connects nobody, and saves nothing
    fewer : (x : ℕ) → connects step.what ≡ [] → count (λ (s : PlainSaved). of s == x) (sessions_after base limits before step.at (sessions base limits before) step.what) ≤ count (λ (s : PlainSaved). of s == x) (sessions base limits before)
        → holders (step ∷ before) x ≤ holders before x
    unfolding count
    fewer x none saved =
        let a : count (has_id id x) (sockets base (step ∷ before)) ≡ count (has_id id x) (filter (λ k. not (ends step.what k)) (sockets base before)) + 0
        = ap (count (has_id id x)) (sockets-are ∙ ap (λ l. filter (λ k. not (ends step.what k)) (sockets base before) ++ l) none)
        ∙ count-append (has_id id x) (filter (λ k. not (ends step.what k)) (sockets base before)) [] in
        let b = count-filter (has_id id x) (λ k. not (ends step.what k)) (sockets base before) in
        let c : count (λ (s : PlainSaved). of s == x) (sessions base limits (step ∷ before)) ≡ count (λ (s : PlainSaved). of s == x) (sessions_after base limits before step.at (sessions base limits before) step.what) = ap (count (λ (s : PlainSaved). of s == x)) sessions-are in
        omega (arith, a, b, c, saved)

    -- the same counts of what a step leaves
    with-lists : (x : ℕ) (ks : List Socket) (ss : List PlainSaved) → sockets base (step ∷ before) ≡ ks → sessions base limits (step ∷ before) ≡ ss
        → count (has_id id x) ks + count (λ (s : PlainSaved). of s == x) ss ≤ 1 → holders (step ∷ before) x ≤ 1
    with-lists x ks ss e f h = rw (e, f) h

  filter-true : (ks : List Socket) → filter (λ k. not false) ks ≡ ks
  filter-true [] = refl
  filter-true (k ∷ ks) = ap (λ l. k ∷ l) (filter-true ks)

  attached-once : (at : ℕ) (k : Socket) (before : List Step) → attach_refusal base limits before k ≡ None → ((x : ℕ) → holders before x ≤ 1) → (x : ℕ) → holders (record { at = at; what = Attached k } ∷ before) x ≤ 1
  unfolding count
  attached-once at k before accepted was x =
      with-lists (record { at = at; what = Attached k }) before x (sockets base before ++ k ∷ []) (sessions base limits before)
      (sockets-are (record { at = at; what = Attached k }) before ∙ ap (λ l. l ++ k ∷ []) (filter-true (sockets base before)))
      (sessions-are (record { at = at; what = Attached k }) before)
      (on (id k == x) refl)
    where
      on : (b : Bool) → (id k == x) ≡ b → count (has_id id x) (sockets base before ++ k ∷ []) + count (λ (s : PlainSaved). of s == x) (sessions base limits before) ≤ 1
      on true e =
          let same : id k ≡ x = eqb-true (id k) x e in
          let new = kept.new base limits before k accepted in
          let none : count (has_id id x) (sockets base before) ≡ 0 = none-connected before x (ap (socket_with id base before) (sym same) ∙ new.0) in
          let free : count (λ (s : PlainSaved). of s == x) (sessions base limits before) ≡ 0
          = count-none (λ (s : PlainSaved). of s == x) (sessions base limits before) (ap (λ n. list_any (λ (s : PlainSaved). of s == n) (sessions base limits before)) (sym same) ∙ new.1) in
          let push = count-append (has_id id x) (sockets base before) (k ∷ []) in
          let here : one (id k == x) ≡ 1 = ap one e in
          omega (arith, none, free, push, here)
      on false e =
          let push = count-append (has_id id x) (sockets base before) (k ∷ []) in
          let h = was x in
          let here : one (id k == x) ≡ 0 = ap one e in
          omega (arith, push, h, here)

  recovered-once : (at : ℕ) (r : PlainRecovery) (before : List Step) → RightRecovery base limits before r → ((x : ℕ) → holders before x ≤ 1) → (x : ℕ) → holders (record { at = at; what = Recovered r } ∷ before) x ≤ 1
  unfolding count
  recovered-once at r before right was x =
      let k = r.socket in
      let ss = sessions base limits before in
      with-lists (record { at = at; what = Recovered r }) before x (sockets base before ++ k ∷ []) (filter (λ (s : PlainSaved). not (s.pid == k.pid)) ss)
      (sockets-are (record { at = at; what = Recovered r }) before ∙ ap (λ l. l ++ k ∷ []) (filter-true (sockets base before)))
      (sessions-are (record { at = at; what = Recovered r }) before)
      (let s : PlainSaved = record { sid = k.sid; pid = k.pid; space = k.space; rooms = r.rooms; lost_at = right.lost_at } in
      let push = count-append (has_id id x) (sockets base before) (k ∷ []) in
      let split = count-split (λ (s : PlainSaved). of s == x) (λ (s : PlainSaved). s.pid == k.pid) ss in
      let out = taken-out x k.pid s ss right.session in
      let here : one (of s == x) ≡ one (id k == x) = ap (λ n. one (n == x)) (kept.back s k refl refl) in
      let h = was x in
      omega (arith, push, split, out, here, h))

  parked-once : (at c : ℕ) (before : List Step) → ((x : ℕ) → holders before x ≤ 1) → (x : ℕ) → holders (record { at = at; what = Parked c } ∷ before) x ≤ 1
  unfolding count sockets_of
  parked-once at c before was x =
      let ks = sockets base before in
      let ss = sessions base limits before in
      let goes : Socket → Bool = λ k. k.client == c in
      with-lists (record { at = at; what = Parked c }) before x (filter (λ k. not (goes k)) ks ++ []) (with_sessions (map (lost_session base before at) (filter goes ks)) ss)
      (sockets-are (record { at = at; what = Parked c }) before)
      (sessions-are (record { at = at; what = Parked c }) before)
      (let push = count-append (has_id id x) (filter (λ k. not (goes k)) ks) [] in
      let split = count-split (has_id id x) goes ks in
      let saved = count-with-all (λ (s : PlainSaved). of s == x) (map (lost_session base before at) (filter goes ks)) ss in
      let lost = lost-count before at x (filter goes ks) in
      let h = was x in
      omega (arith, push, split, saved, lost, h))

  once-after : (at : ℕ) (before : List Step) (what : What) → IsAllowed base limits before (record { at = at; what = what }) what → ((x : ℕ) → holders before x ≤ 1) → (x : ℕ) → holders (record { at = at; what = what } ∷ before) x ≤ 1
  once-after at before (Attached k) allowed was x = attached-once at k before (unrefused (attach_refusal base limits before k) (is_spent base limits before (Attached k)) (sym allowed.0)) was x
  once-after at before (Recovered r) allowed was x = recovered-once at r before allowed.1 was x
  once-after at before (Parked c) allowed was x = parked-once at c before was x
  once-after at before (Opened c) allowed was x = let h = was x in let f = fewer (record { at = at; what = Opened c }) before x refl (omega arith) in omega (arith, f, h)
  once-after at before (Joined s w) allowed was x = let h = was x in let f = fewer (record { at = at; what = Joined s w }) before x refl (omega arith) in omega (arith, f, h)
  once-after at before (Left s w) allowed was x = let h = was x in let f = fewer (record { at = at; what = Left s w }) before x refl (omega arith) in omega (arith, f, h)
  once-after at before (AllJoined m) allowed was x = let h = was x in let f = fewer (record { at = at; what = AllJoined m }) before x refl (omega arith) in omega (arith, f, h)
  once-after at before (AllLeft m) allowed was x = let h = was x in let f = fewer (record { at = at; what = AllLeft m }) before x refl (omega arith) in omega (arith, f, h)
  once-after at before (Cast b) allowed was x = let h = was x in let f = fewer (record { at = at; what = Cast b }) before x refl (omega arith) in omega (arith, f, h)
  once-after at before (Told m) allowed was x = let h = was x in let f = fewer (record { at = at; what = Told m }) before x refl (omega arith) in omega (arith, f, h)
  once-after at before (Took c m n) allowed was x = let h = was x in let f = fewer (record { at = at; what = Took c m n }) before x refl (omega arith) in omega (arith, f, h)
  once-after at before (Ended s by) allowed was x = let h = was x in let f = fewer (record { at = at; what = Ended s by }) before x refl (omega arith) in omega (arith, f, h)
  once-after at before (AllEnded d) allowed was x = let h = was x in let f = fewer (record { at = at; what = AllEnded d }) before x refl (omega arith) in omega (arith, f, h)
  once-after at before (Closed c) allowed was x = let h = was x in let f = fewer (record { at = at; what = Closed c }) before x refl (omega arith) in omega (arith, f, h)
  once-after at before Swept allowed was x =
      let h = was x in
      let s = count-filter (λ (s : PlainSaved). of s == x) (λ (s : PlainSaved). not (is_outdated limits.keep at s.lost_at)) (sessions base limits before) in
      let f = fewer (record { at = at; what = Swept }) before x refl (omega (arith, s)) in omega (arith, f, h)

  base-once : IsSound base limits [] → (x : ℕ) → holders [] x ≤ 1
  base-once sound x =
      let ks = sockets base [] in
      let ss = sessions base limits [] in
      let few = at-most-one AreApart id kept.apart x ks sound.sockets_apart in
      let few' = at-most-one DifferInIds of kept.differ x ss sound.sessions_differ in
      on (list_any (λ (s : PlainSaved). of s == x) ss) refl few few' ss sound.apart
    where
      free : (ss : List PlainSaved) → AllByRecursion (IsAway (sockets base [])) ss → list_any (λ (s : PlainSaved). of s == x) ss ≡ true → list_any (has_id id x) (sockets base []) ≡ false
      free [] all e = absurd (cc e)
      free (s ∷ ss) all e = at (of s == x) refl e (free ss all.1)
        where
          at : (b : Bool) → (of s == x) ≡ b → (b || list_any (λ (s : PlainSaved). of s == x) ss) ≡ true → (list_any (λ (s : PlainSaved). of s == x) ss ≡ true → list_any (has_id id x) (sockets base []) ≡ false) → list_any (has_id id x) (sockets base []) ≡ false
          at true is h rest = ap (λ n. list_any (has_id id n) (sockets base [])) (sym (eqb-true (of s) x is)) ∙ kept.away (sockets base []) s all.0
          at false is h rest = rest h

      on : (b : Bool) → list_any (λ (s : PlainSaved). of s == x) (sessions base limits []) ≡ b → count (has_id id x) (sockets base []) ≤ 1 → count (λ (s : PlainSaved). of s == x) (sessions base limits []) ≤ 1
          → (ss : List PlainSaved) → AllByRecursion (IsAway (sockets base [])) (sessions base limits []) → holders [] x ≤ 1
      on true e few few' ss all = let z = count-none (has_id id x) (sockets base []) (free (sessions base limits []) all e) in omega (arith, z, few')
      on false e few few' ss all = let z = count-none (λ (s : PlainSaved). of s == x) (sessions base limits []) e in omega (arith, z, few)

  -- in a legal journal no id is held twice
  pub held-once : (journal : List Step) → IsLegal base limits journal → (x : ℕ) → holders journal x ≤ 1
  unfolding IsLegal
  held-once [] legal x = base-once legal x
  held-once (step ∷ before) legal x = once-after step.at before step.what legal.0 (held-once before legal.2) x
