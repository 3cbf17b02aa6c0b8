-- What a session keeps in a legal journal, and how one more step changes that it is connected or saved.
use Rattle.std.proofs.lemmas.Bool.{eqb-true}
use Rattle.std.specs.Option.{option_map, option_map_or, option_or}
use Rattle.continuity.specs.Heard.{has, given, begins}
use Rattle.std.proofs.Common.{◌≡◌, ℕ, ◌+◌, ◌≤◌, ◌==◌, Bool, true, false, ◌||◌, not, List, [], ◌∷◌, filter, map, refl, sym, ◌∙◌, ap, subst, arith, if◌then◌else◌, Option, None, Some, nat_lt, ◌++◌, append-nil}
use Rattle.std.specs.Prelude.{is_some}
use Rattle.std.specs.List.{list_any, find, AllByRecursion}
use Rattle.std.proofs.lemmas.List.Folds.{list_any-append}
use Rattle.std.specs.Ordering.{eq_by_cmp}
use Rattle.std.specs.Cmp.Lexicographic.{nat_list_cmp_total}
use Rattle.std.specs.FinSet as set
use Rattle.std.specs.FinMap as finite
use Rattle.std.specs.FinMap.Entries as entries
use Rattle.terms.specs.Room.{room_cmp}
use Rattle.room_maps.specs.Membership.{RoomSets, is_in, rooms_in}
use Rattle.room_maps.proofs.MembershipLemmas.{contains-rooms_in}
use Rattle.room_maps.proofs.OrderLemmas.{same_room-cmp}
use Rattle.recovery.specs.Expiry.{is_outdated}
use Rattle.recovery.specs.SavedTable.{PlainSaved, with_session}
use Rattle.recovery.specs.Missed.{is_one_of}
use Rattle.journal.specs.declared.socket.Socket.{Socket}
use Rattle.journal.specs.declared.step.Step.{Step}
use Rattle.journal.specs.declared.step.What.{What}
use Rattle.journal.specs.declared.step.What.TheVariants.{Opened, Attached, Recovered, Joined, Left, AllJoined, AllLeft, Cast, Told, Took, Parked, Ended, AllEnded, Closed, Swept}
use Rattle.journal.specs.Plain.{PlainBase, Limits, PlainRecovery}
use Rattle.journal.specs.Membership.{connects, ends, sockets, pid_of, has_id, socket_with, sockets_of, rooms}
use Rattle.journal.specs.Sessions.{rooms_rising, lost_session, with_sessions, sessions_after, sessions, session_with, is_pid_saved}
use Rattle.journal.specs.Legal.{IsAllowed, IsLegal, RightRecovery}
use Rattle.journal.proofs.SessionsLemmas.{is_some-find}
use Rattle.journal.proofs.SocketsLemmas.{no-one}
use Rattle.continuity.specs.Session.{kept_by_socket, kept_by_saved, kept, Kept, kept_rooms}
use Rattle.continuity.specs.Truly.{loses, until_lost, KeepsSince, KeepsItsRooms}
use Rattle.continuity.proofs.IdsLemmas.{one, count, count-some, count-filter, any-zero, pids-kept, held-once}
use Rattle.continuity.proofs.SeatedLemmas.{any-kept, sockets-after}

-- ---- lists

pub find-none : {A : Type 0} (p : A → Bool) (xs : List A) → list_any p xs ≡ false → find p xs ≡ None
find-none p xs e = no-one (find p xs) (is_some-find p xs ∙ e)

pub found-any : {A : Type 0} (p : A → Bool) (xs : List A) (x : A) → find p xs ≡ Some x → list_any p xs ≡ true
found-any p xs x e = sym (is_some-find p xs) ∙ ap is_some e

pub find-some : {A : Type 0} (q : A → Bool) (xs : List A) → list_any q xs ≡ true → (x : A) × (find q xs ≡ Some x)
find-some {A} q xs e = on (find q xs) (is_some-find q xs ∙ e)
  where
    on : (o : Option A) → is_some o ≡ true → (x : A) × (o ≡ Some x)
    on None h = absurd (cc h)
    on (Some x) h = (x, refl)

-- one is found of which all is true that is true of each
pub found-all : {A : Type 0} (P : A → Type 0) (p : A → Bool) (xs : List A) (x : A) → AllByRecursion P xs → find p xs ≡ Some x → P x
found-all P p [] x h e = cc
found-all P p (y ∷ xs) x h e = on (p y) e (found-all P p xs x h.1)
  where
    on : (b : Bool) → (if b then Some y else find p xs) ≡ Some x → (find p xs ≡ Some x → P x) → P x
    on true is rest = let same : y ≡ x = cc in subst P same h.0
    on false is rest = rest is

-- one is found that passes
pub found-passes : {A : Type 0} (p : A → Bool) (xs : List A) (x : A) → find p xs ≡ Some x → p x ≡ true
found-passes p [] x e = cc
found-passes p (y ∷ xs) x e = on (p y) refl e (found-passes p xs x)
  where
    on : (b : Bool) → p y ≡ b → (if b then Some y else find p xs) ≡ Some x → (find p xs ≡ Some x → p x ≡ true) → p x ≡ true
    on true y_passes is rest = let same : y ≡ x = cc in ap p (sym same) ∙ y_passes
    on false fails is rest = rest is

-- where at most one passes, what is found is the only one that passes
only-one : {A : Type 0} (p : A → Bool) (xs : List A) (x : A) → count p xs ≤ 1 → find p xs ≡ Some x → AllByRecursion (λ y. p y ≡ true → y ≡ x) xs
unfolding count
only-one p [] x few e = tt
only-one p (y ∷ xs) x few e = on (p y) refl few e (only-one p xs x)
  where
    none : (zs : List _) → count p zs ≡ 0 → AllByRecursion (λ z. p z ≡ true → z ≡ x) zs
    none [] h = tt
    none (z ∷ zs) h = ((λ passes. let n : one (p z) ≡ 1 = ap one passes in absurd (omega (arith, h, n))), none zs (omega (arith, h)))

    on : (b : Bool) → p y ≡ b → one b + count p xs ≤ 1 → (if b then Some y else find p xs) ≡ Some x → (count p xs ≤ 1 → find p xs ≡ Some x → AllByRecursion (λ z. p z ≡ true → z ≡ x) xs)
        → (p y ≡ true → y ≡ x) × AllByRecursion (λ z. p z ≡ true → z ≡ x) xs
    on true is few e rest = let same : y ≡ x = cc in ((λ passes. same), none xs (omega (arith, few)))
    on false is few e rest = ((λ passes. cc), rest (omega (arith, few)) e)

-- where at most one passes, one that is found in a part is found in all
found-more : {A : Type 0} (p q : A → Bool) (xs : List A) (x : A) → count p xs ≤ 1 → find p (filter q xs) ≡ Some x → find p xs ≡ Some x
unfolding count
found-more p q [] x few e = e
found-more p q (y ∷ xs) x few e = on (q y) (p y) refl few e (found-more p q xs x)
  where
    on : (b c : Bool) → p y ≡ c → one (p y) + count p xs ≤ 1 → find p (if b then y ∷ filter q xs else filter q xs) ≡ Some x → (count p xs ≤ 1 → find p (filter q xs) ≡ Some x → find p xs ≡ Some x)
        → (if p y then Some y else find p xs) ≡ Some x
    on true true is few e rest = rw is (sym (ap (λ c. if c then Some y else find p (filter q xs)) is) ∙ e)
    on true false is few e rest = rw is (rest (omega (arith, few)) (sym (ap (λ c. if c then Some y else find p (filter q xs)) is) ∙ e))
    on false true is few e rest =
        let here : one (p y) ≡ 1 = ap one is in
        let none : count p xs ≡ 0 = omega (arith, few, here) in
        let some = count-some p (filter q xs) (found-any p (filter q xs) x e) in
        let less = count-filter p q xs in
        absurd (omega (arith, none, some, less))
    on false false is few e rest = rw is (rest (omega (arith, few)) e)

all-with : (P : PlainSaved → Type 0) (s : PlainSaved) (ss : List PlainSaved) → P s → AllByRecursion P ss → AllByRecursion P (with_session s ss)
all-with P s [] here h = (here, tt)
all-with P s (t ∷ ss) here h = elim (nat_lt s.pid t.pid) as (λ b. AllByRecursion P (if b then s ∷ t ∷ ss else t ∷ with_session s ss)) [
  | true ↦ (here, h)
  | false ↦ (h.0, all-with P s ss here h.1)
]

all-saved : (P : PlainSaved → Type 0) (ns ss : List PlainSaved) → AllByRecursion P ns → AllByRecursion P ss → AllByRecursion P (with_sessions ns ss)
all-saved P [] ss new h = h
all-saved P (n ∷ ns) ss new h = all-saved P ns (with_session n ss) new.1 (all-with P n ss new.0 h)

-- a session with another private id is in nobody's way
find-with : (p : ℕ) (s : PlainSaved) (ss : List PlainSaved) → (s.pid == p) ≡ false → session_with p (with_session s ss) ≡ session_with p ss
find-with p s [] e = rw e refl
find-with p s (t ∷ ss) e = on (nat_lt s.pid t.pid) (find-with p s ss e)
  where
    on : (b : Bool) → session_with p (with_session s ss) ≡ session_with p ss → session_with p (if b then s ∷ t ∷ ss else t ∷ with_session s ss) ≡ session_with p (t ∷ ss)
    on true rest = rw e refl
    on false rest = ap (λ o. if t.pid == p then Some t else o) rest

pub find-with-all : (p : ℕ) (ns ss : List PlainSaved) → list_any (λ (s : PlainSaved). s.pid == p) ns ≡ false → session_with p (with_sessions ns ss) ≡ session_with p ss
find-with-all p [] ss e = refl
find-with-all p (n ∷ ns) ss e = let h = neither (n.pid == p) (list_any (λ (s : PlainSaved). s.pid == p) ns) e in find-with-all p ns (with_session n ss) h.1 ∙ find-with p n ss h.0
  where
    neither : (a b : Bool) → (a || b) ≡ false → (a ≡ false) × (b ≡ false)
    neither true b e = cc
    neither false b e = (refl, e)

pub lost-any : (base : PlainBase) (before : List Step) (at p : ℕ) (ks : List Socket) → list_any (λ (s : PlainSaved). s.pid == p) (map (lost_session base before at) ks) ≡ list_any (has_id pid_of p) ks
lost-any base before at p [] = refl
lost-any base before at p (k ∷ ks) = ap (λ b. (k.pid == p) || b) (lost-any base before at p ks)

-- ---- the rooms that are saved are those that the socket was in

names : (xs : List (List ℕ)) → map (λ (e : List ℕ × Unit {0}). e.0) (map (λ x. (x, tt {0})) xs) ≡ xs
names [] = refl
names (x ∷ xs) = ap (λ l. x ∷ l) (names xs)

pub members : (sets : RoomSets) (s : ℕ) (w : List ℕ) → is_one_of (rooms_rising sets s) w ≡ is_in sets s w
members sets s w =
    ap (λ p. list_any p (rooms_rising sets s)) (λ i r. sym (same_room-cmp w r) i)
    ∙ sym (finite.contains_key-keys (finite.from_entries {R = room_cmp} (map (λ x. (x, tt {0})) (set.items (rooms_in sets s)))) w)
    ∙ ap is_some (finite.get-from_entries nat_list_cmp_total (map (λ x. (x, tt {0})) (set.items (rooms_in sets s))) w)
    ∙ entries.is_some-find room_cmp w (map (λ x. (x, tt {0})) (set.items (rooms_in sets s)))
    ∙ ap (list_any (eq_by_cmp room_cmp w)) (names (set.items (rooms_in sets s)))
    ∙ sym (set.contains-items (rooms_in sets s) w)
    ∙ contains-rooms_in sets s w

pub keeps-lost : (base : PlainBase) (before : List Step) (at : ℕ) (k : Socket) → kept_by_socket base before k ≡ kept_by_saved (lost_session base before at k)
keeps-lost base before at k i = record { space = k.space; is_room = λ w. sym (members (rooms base before) k.sid w) i }

-- ---- connected or saved

module _ (base : PlainBase) (limits : Limits) (p : ℕ) where
  abbrev pub is_here : List Step → Bool
  is_here journal = list_any (has_id pid_of p) (sockets base journal)

  abbrev pub is_away : List Step → Bool
  is_away journal = is_pid_saved (sessions base limits journal) p

  pub kept-here : (journal : List Step) (k : Socket) → socket_with pid_of base journal p ≡ Some k → kept base limits journal p ≡ Some (kept_by_socket base journal k)
  unfolding kept
  kept-here journal k e = rw e refl

  kept-away : (journal : List Step) (s : PlainSaved) → socket_with pid_of base journal p ≡ None → session_with p (sessions base limits journal) ≡ Some s → kept base limits journal p ≡ Some (kept_by_saved s)
  unfolding kept
  kept-away journal s e f = rw (e, f) refl

  pub once : (journal : List Step) → IsLegal base limits journal → count (has_id pid_of p) (sockets base journal) + count (λ (s : PlainSaved). s.pid == p) (sessions base limits journal) ≤ 1
  once journal legal = held-once base limits pid_of (λ (s : PlainSaved). s.pid) pids-kept journal legal p

  pub not-both : (journal : List Step) → IsLegal base limits journal → is_away journal ≡ true → is_here journal ≡ false
  not-both journal legal e =
      let few = once journal legal in
      let some = count-some (λ (s : PlainSaved). s.pid == p) (sessions base limits journal) e in
      any-zero (has_id pid_of p) (sockets base journal) (omega (arith, few, some))

  pub nobody-here : (journal : List Step) → is_here journal ≡ false → socket_with pid_of base journal p ≡ None
  unfolding socket_with
  nobody-here journal e = find-none (has_id pid_of p) (sockets base journal) e

  pub keeps-saved : (journal : List Step) (s : PlainSaved) → IsLegal base limits journal → session_with p (sessions base limits journal) ≡ Some s → kept base limits journal p ≡ Some (kept_by_saved s)
  keeps-saved journal s legal e =
      kept-away journal s (nobody-here journal (not-both journal legal (found-any (λ (s : PlainSaved). s.pid == p) (sessions base limits journal) s e))) e

  -- ---- one more step

  pub was-here : (step : Step) (before : List Step) → list_any (has_id pid_of p) (connects step.what) ≡ false → is_here (step ∷ before) ≡ true → is_here before ≡ true
  was-here step before none e =
      any-kept (has_id pid_of p) (λ k. not (ends step.what k)) (sockets base before)
      (sym (or-false (list_any (has_id pid_of p) (filter (λ k. not (ends step.what k)) (sockets base before))))
      ∙ ap (λ b. list_any (has_id pid_of p) (filter (λ k. not (ends step.what k)) (sockets base before)) || b) (sym none)
      ∙ sym (list_any-append (has_id pid_of p) (filter (λ k. not (ends step.what k)) (sockets base before)) (connects step.what))
      ∙ sym (ap (list_any (has_id pid_of p)) (sockets-after base limits step before))
      ∙ e)
    where
      or-false : (b : Bool) → (b || false) ≡ b
      or-false true = refl
      or-false false = refl

  pub sessions-are : (step : Step) (before : List Step) → sessions base limits (step ∷ before) ≡ sessions_after base limits before step.at (sessions base limits before) step.what
  unfolding sessions
  sessions-are step before = refl

  -- the session is found before the step too, where the step doesn't lose its socket
  found-before : (at : ℕ) (before : List Step) (s : PlainSaved) (what : What) → count (λ (s : PlainSaved). s.pid == p) (sessions base limits before) ≤ 1 → loses base before p what ≡ false
      → session_with p (sessions_after base limits before at (sessions base limits before) what) ≡ Some s → session_with p (sessions base limits before) ≡ Some s
  found-before at before s (Parked c) few unlost e = sym (find-with-all p (map (lost_session base before at) (sockets_of base before c)) (sessions base limits before) (lost-any base before at p (sockets_of base before c) ∙ unlost)) ∙ e
  found-before at before s (Recovered r) few unlost e = found-more (λ (s : PlainSaved). s.pid == p) (λ (s : PlainSaved). not (s.pid == r.socket.pid)) (sessions base limits before) s few e
  found-before at before s Swept few unlost e = found-more (λ (s : PlainSaved). s.pid == p) (λ (s : PlainSaved). not (is_outdated limits.keep at s.lost_at)) (sessions base limits before) s few e
  found-before at before s (Opened c) few unlost e = e
  found-before at before s (Attached k) few unlost e = e
  found-before at before s (Joined t w) few unlost e = e
  found-before at before s (Left t w) few unlost e = e
  found-before at before s (AllJoined m) few unlost e = e
  found-before at before s (AllLeft m) few unlost e = e
  found-before at before s (Cast b) few unlost e = e
  found-before at before s (Told m) few unlost e = e
  found-before at before s (Took c m n) few unlost e = e
  found-before at before s (Ended t by) few unlost e = e
  found-before at before s (AllEnded d) few unlost e = e
  found-before at before s (Closed c) few unlost e = e

  pub saved-before : (step : Step) (before : List Step) (s : PlainSaved) → IsLegal base limits before → loses base before p step.what ≡ false
      → session_with p (sessions base limits (step ∷ before)) ≡ Some s → session_with p (sessions base limits before) ≡ Some s
  saved-before step before s legal unlost e =
      let few = once before legal in
      found-before step.at before s step.what (omega (arith, few)) unlost (sym (ap (session_with p) (sessions-are step before)) ∙ e)

  pub lost-was-here : (before : List Step) (what : What) → loses base before p what ≡ true → is_here before ≡ true
  unfolding sockets_of
  lost-was-here before (Parked c) e = any-kept (has_id pid_of p) (λ (k : Socket). k.client == c) (sockets base before) e
  lost-was-here before (Opened c) e = cc
  lost-was-here before (Attached k) e = cc
  lost-was-here before (Recovered r) e = cc
  lost-was-here before (Joined t w) e = cc
  lost-was-here before (Left t w) e = cc
  lost-was-here before (AllJoined m) e = cc
  lost-was-here before (AllLeft m) e = cc
  lost-was-here before (Cast b) e = cc
  lost-was-here before (Told m) e = cc
  lost-was-here before (Took c m n) e = cc
  lost-was-here before (Ended t by) e = cc
  lost-was-here before (AllEnded d) e = cc
  lost-was-here before (Closed c) e = cc
  lost-was-here before Swept e = cc

  pub here-is : (journal : List Step) → is_here journal ≡ true → (k : Socket) × (socket_with pid_of base journal p ≡ Some k)
  unfolding socket_with
  here-is journal e = find-some (has_id pid_of p) (sockets base journal) e

  -- connected or saved before, where the step doesn't connect it
  pub was-kept : (step : Step) (before : List Step) → IsLegal base limits before → list_any (has_id pid_of p) (connects step.what) ≡ false → (is_here (step ∷ before) || is_away (step ∷ before)) ≡ true
      → (is_here before || is_away before) ≡ true
  was-kept step before legal none e = on (is_here (step ∷ before)) (is_away (step ∷ before)) refl refl e
    where
      left : (a b : Bool) → a ≡ true → (a || b) ≡ true
      left true b h = refl
      left false b h = cc

      right : (a b : Bool) → b ≡ true → (a || b) ≡ true
      right true b h = refl
      right false b h = h

      lost : (c : Bool) → loses base before p step.what ≡ c → is_away (step ∷ before) ≡ true → (is_here before || is_away before) ≡ true
      lost true l away = left (is_here before) (is_away before) (lost-was-here before step.what l)
      lost false l away =
          let some = find-some (λ (s : PlainSaved). s.pid == p) (sessions base limits (step ∷ before)) away in
          right (is_here before) (is_away before) (found-any (λ (s : PlainSaved). s.pid == p) (sessions base limits before) some.0 (saved-before step before some.0 legal l some.1))

      on : (a b : Bool) → is_here (step ∷ before) ≡ a → is_away (step ∷ before) ≡ b → (a || b) ≡ true → (is_here before || is_away before) ≡ true
      on true b here away h = left (is_here before) (is_away before) (was-here step before none here)
      on false true here away h = lost (loses base before p step.what) refl away
      on false false here away h = absurd (cc h)

  -- ---- while a session is lost it keeps what it had

  all-none : (k : Socket) (base' : PlainBase) (before : List Step) (at : ℕ) (ss : List PlainSaved) → count (λ (s : PlainSaved). s.pid == p) ss ≡ 0
      → AllByRecursion (λ (s : PlainSaved). (s.pid == p) ≡ true → s ≡ lost_session base' before at k) ss
  unfolding count
  all-none k base' before at [] h = tt
  all-none k base' before at (s ∷ ss) h = ((λ e. let n : one (s.pid == p) ≡ 1 = ap one e in absurd (omega (arith, h, n))), all-none k base' before at ss (omega (arith, h)))

  all-its : (k : Socket) (before : List Step) (at : ℕ) (ks : List Socket) → AllByRecursion (λ (l : Socket). has_id pid_of p l ≡ true → l ≡ k) ks
      → AllByRecursion (λ (s : PlainSaved). (s.pid == p) ≡ true → s ≡ lost_session base before at k) (map (lost_session base before at) ks)
  all-its k before at [] h = tt
  all-its k before at (l ∷ ks) h = ((λ e. ap (lost_session base before at) (h.0 e)), all-its k before at ks h.1)

  all-those : (P : Socket → Type 0) (q : Socket → Bool) (ks : List Socket) → AllByRecursion P ks → AllByRecursion P (filter q ks)
  all-those P q [] h = tt
  all-those P q (k ∷ ks) h = on (q k) (all-those P q ks h.1)
    where
      on : (b : Bool) → AllByRecursion P (filter q ks) → AllByRecursion P (if b then k ∷ filter q ks else filter q ks)
      on true rest = (h.0, rest)
      on false rest = rest

  -- the session that a loss saves is that of its socket
  pub lost-is : (at c : ℕ) (before : List Step) (s : PlainSaved) → IsLegal base limits before → is_here before ≡ true
      → session_with p (with_sessions (map (lost_session base before at) (sockets_of base before c)) (sessions base limits before)) ≡ Some s
      → (k : Socket) × (socket_with pid_of base before p ≡ Some k) × (s ≡ lost_session base before at k)
  unfolding socket_with sockets_of
  lost-is at c before s legal here found =
      let one_here = here-is before here in
      let k = one_here.0 in
      let gone : List Socket = filter (λ (k : Socket). k.client == c) (sockets base before) in
      let ss : List PlainSaved = sessions base limits before in
      let few = once before legal in
      let some = count-some (has_id pid_of p) (sockets base before) here in
      let its : AllByRecursion (λ (l : Socket). has_id pid_of p l ≡ true → l ≡ k) gone
      = all-those (λ (l : Socket). has_id pid_of p l ≡ true → l ≡ k) (λ (k : Socket). k.client == c) (sockets base before) (only-one (has_id pid_of p) (sockets base before) k (omega (arith, few)) one_here.1) in
      let none : AllByRecursion (λ (s : PlainSaved). (s.pid == p) ≡ true → s ≡ lost_session base before at k) ss = all-none k base before at ss (omega (arith, few, some)) in
      let all = all-saved (λ (s : PlainSaved). (s.pid == p) ≡ true → s ≡ lost_session base before at k) (map (lost_session base before at) gone) ss (all-its k before at gone its) none in
      let is : s ≡ lost_session base before at k
      = found-all (λ (s : PlainSaved). (s.pid == p) ≡ true → s ≡ lost_session base before at k) (λ (s : PlainSaved). s.pid == p) (with_sessions (map (lost_session base before at) gone) ss) s all found
      (found-passes (λ (s : PlainSaved). s.pid == p) (with_sessions (map (lost_session base before at) gone) ss) s found) in
      (k, one_here.1, is)

  -- it keeps what the socket had
  lost-keeps : (at c : ℕ) (before : List Step) (s : PlainSaved) → IsLegal base limits before → is_here before ≡ true
      → session_with p (with_sessions (map (lost_session base before at) (sockets_of base before c)) (sessions base limits before)) ≡ Some s → kept base limits before p ≡ Some (kept_by_saved s)
  lost-keeps at c before s legal here found =
      let is = lost-is at c before s legal here found in
      kept-here before is.0 is.1 ∙ ap (λ z. Some z) (keeps-lost base before at is.0) ∙ ap (λ z. Some (kept_by_saved z)) (sym is.2)

  loss-keeps : (at : ℕ) (before : List Step) (s : PlainSaved) (what : What) → IsLegal base limits before → loses base before p what ≡ true
      → session_with p (sessions_after base limits before at (sessions base limits before) what) ≡ Some s → kept base limits before p ≡ Some (kept_by_saved s)
  loss-keeps at before s (Parked c) legal l found = lost-keeps at c before s legal (lost-was-here before (Parked c) l) found
  loss-keeps at before s (Opened c) legal l found = cc
  loss-keeps at before s (Attached k) legal l found = cc
  loss-keeps at before s (Recovered r) legal l found = cc
  loss-keeps at before s (Joined t w) legal l found = cc
  loss-keeps at before s (Left t w) legal l found = cc
  loss-keeps at before s (AllJoined m) legal l found = cc
  loss-keeps at before s (AllLeft m) legal l found = cc
  loss-keeps at before s (Cast b) legal l found = cc
  loss-keeps at before s (Told m) legal l found = cc
  loss-keeps at before s (Took c m n) legal l found = cc
  loss-keeps at before s (Ended t by) legal l found = cc
  loss-keeps at before s (AllEnded d) legal l found = cc
  loss-keeps at before s (Closed c) legal l found = cc
  loss-keeps at before s Swept legal l found = cc

  -- ---- a session keeps its namespace

  sockets-come : (step : Step) (before : List Step) → sockets base (step ∷ before) ≡ filter (λ k. not (ends step.what k)) (sockets base before) ++ connects step.what
  sockets-come step before = sockets-after base limits step before

  -- what the session kept before a step
  abbrev KeptIn : List Step → ℕ → Type 0
  KeptIn before space = (k : Kept) × (kept base limits before p ≡ Some k) × (k.space ≡ space)

  here-before : (before : List Step) (ks : List Socket) (l : Socket) → IsLegal base limits before → (q : Socket → Bool) → ks ≡ filter q (sockets base before) → find (has_id pid_of p) ks ≡ Some l → KeptIn before l.space
  unfolding socket_with
  here-before before ks l legal q are found =
      let few = once before legal in
      let was : find (has_id pid_of p) (sockets base before) ≡ Some l
      = found-more (has_id pid_of p) q (sockets base before) l (omega (arith, few)) (ap (find (has_id pid_of p)) (sym are) ∙ found) in
      (kept_by_socket base before l, kept-here before l was, refl)

  away-before : (step : Step) (before : List Step) (s : PlainSaved) → IsLegal base limits before → session_with p (sessions base limits (step ∷ before)) ≡ Some s → KeptIn before s.space
  away-before step before s legal found = on (loses base before p step.what) refl
    where
      on : (b : Bool) → loses base before p step.what ≡ b → KeptIn before s.space
      on true l = (kept_by_saved s, loss-keeps step.at before s step.what legal l (sym (ap (session_with p) (sessions-are step before)) ∙ found), refl)
      on false l = (kept_by_saved s, keeps-saved before s legal (saved-before step before s legal l found), refl)

  filter-true : (ks : List Socket) → filter (λ k. not false) ks ≡ ks
  filter-true [] = refl
  filter-true (k ∷ ks) = ap (λ l. k ∷ l) (filter-true ks)

  find-last : (ks : List Socket) (k : Socket) → list_any (has_id pid_of p) ks ≡ false → (k.pid == p) ≡ true → find (has_id pid_of p) (ks ++ k ∷ []) ≡ Some k
  find-last [] k none is = ap (λ b. if b then Some k else None) is
  find-last (j ∷ ks) k none is = on (j.pid == p) none (find-last ks k)
    where
      on : (b : Bool) → (b || list_any (has_id pid_of p) ks) ≡ false → (list_any (has_id pid_of p) ks ≡ false → (k.pid == p) ≡ true → find (has_id pid_of p) (ks ++ k ∷ []) ≡ Some k)
          → (if b then Some j else find (has_id pid_of p) (ks ++ k ∷ [])) ≡ Some k
      on true e rest = absurd (cc e)
      on false e rest = rest e is

  find-skips : (ks : List Socket) (k : Socket) → (k.pid == p) ≡ false → find (has_id pid_of p) (ks ++ k ∷ []) ≡ find (has_id pid_of p) ks
  find-skips [] k not_it = ap (λ b. if b then Some k else None) not_it
  find-skips (j ∷ ks) k not_it = ap (λ o. if j.pid == p then Some j else o) (find-skips ks k not_it)

  same-some : {A : Type 0} (x y : A) → Some x ≡ Some y → x ≡ y
  same-some x y e = cc

  -- a socket that came back
  back-before : (at : ℕ) (before : List Step) (r : PlainRecovery) (l : Socket) → IsLegal base limits before → RightRecovery base limits before r
      → find (has_id pid_of p) (sockets base (record { at = at; what = Recovered r } ∷ before)) ≡ Some l → KeptIn before l.space
  back-before at before r l legal right found = on (r.socket.pid == p) refl
    where
      are : sockets base (record { at = at; what = Recovered r } ∷ before) ≡ sockets base before ++ r.socket ∷ []
      are = sockets-come (record { at = at; what = Recovered r }) before ∙ ap (λ ks. ks ++ r.socket ∷ []) (filter-true (sockets base before))

      on : (b : Bool) → (r.socket.pid == p) ≡ b → KeptIn before l.space
      on true is =
          let same : r.socket.pid ≡ p = eqb-true r.socket.pid p is in
          let s : PlainSaved = record { sid = r.socket.sid; pid = r.socket.pid; space = r.socket.space; rooms = r.rooms; lost_at = right.lost_at } in
          let saved : session_with p (sessions base limits before) ≡ Some s = subst (λ q. session_with q (sessions base limits before) ≡ Some s) same right.session in
          let gone = not-both before legal (found-any (λ (t : PlainSaved). t.pid == p) (sessions base limits before) s saved) in
          let it : r.socket ≡ l = same-some r.socket l (sym (find-last (sockets base before) r.socket gone is) ∙ sym (ap (find (has_id pid_of p)) are) ∙ found) in
          (kept_by_saved s, keeps-saved before s legal saved, ap (λ (k : Socket). k.space) it)
      on false is =
          here-before before (sockets base before) l legal (λ k. not false) (sym (filter-true (sockets base before)))
          (sym (find-skips (sockets base before) r.socket is) ∙ sym (ap (find (has_id pid_of p)) are) ∙ found)

  stays-before : (step : Step) (before : List Step) (l : Socket) → IsLegal base limits before → connects step.what ≡ [] → find (has_id pid_of p) (sockets base (step ∷ before)) ≡ Some l → KeptIn before l.space
  stays-before step before l legal none found =
      here-before before (sockets base (step ∷ before)) l legal (λ k. not (ends step.what k))
      (sockets-come step before ∙ ap (λ ks. filter (λ k. not (ends step.what k)) (sockets base before) ++ ks) none ∙ append-nil (filter (λ k. not (ends step.what k)) (sockets base before))) found

  socket-before : (at : ℕ) (before : List Step) (what : What) (l : Socket) → IsLegal base limits before → IsAllowed base limits before (record { at = at; what = what }) what → begins p what ≡ false
      → find (has_id pid_of p) (sockets base (record { at = at; what = what } ∷ before)) ≡ Some l → KeptIn before l.space
  socket-before at before (Attached k) l legal allowed other found =
      here-before before (sockets base before) l legal (λ k. not false) (sym (filter-true (sockets base before)))
      (sym (find-skips (sockets base before) k other)
      ∙ sym (ap (find (has_id pid_of p)) (sockets-come (record { at = at; what = Attached k }) before ∙ ap (λ ks. ks ++ k ∷ []) (filter-true (sockets base before)))) ∙ found)
  socket-before at before (Recovered r) l legal allowed other found = back-before at before r l legal allowed.1 found
  socket-before at before (Opened c) l legal allowed other found = stays-before (record { at = at; what = Opened c }) before l legal refl found
  socket-before at before (Joined t w) l legal allowed other found = stays-before (record { at = at; what = Joined t w }) before l legal refl found
  socket-before at before (Left t w) l legal allowed other found = stays-before (record { at = at; what = Left t w }) before l legal refl found
  socket-before at before (AllJoined m) l legal allowed other found = stays-before (record { at = at; what = AllJoined m }) before l legal refl found
  socket-before at before (AllLeft m) l legal allowed other found = stays-before (record { at = at; what = AllLeft m }) before l legal refl found
  socket-before at before (Cast b) l legal allowed other found = stays-before (record { at = at; what = Cast b }) before l legal refl found
  socket-before at before (Told m) l legal allowed other found = stays-before (record { at = at; what = Told m }) before l legal refl found
  socket-before at before (Took c m n) l legal allowed other found = stays-before (record { at = at; what = Took c m n }) before l legal refl found
  socket-before at before (Parked c) l legal allowed other found = stays-before (record { at = at; what = Parked c }) before l legal refl found
  socket-before at before (Ended t by) l legal allowed other found = stays-before (record { at = at; what = Ended t by }) before l legal refl found
  socket-before at before (AllEnded d) l legal allowed other found = stays-before (record { at = at; what = AllEnded d }) before l legal refl found
  socket-before at before (Closed c) l legal allowed other found = stays-before (record { at = at; what = Closed c }) before l legal refl found
  socket-before at before Swept l legal allowed other found = stays-before (record { at = at; what = Swept }) before l legal refl found

  -- a session that a step doesn't begin was kept before it, in its namespace
  space-before : (step : Step) (before : List Step) (k : Kept) → IsLegal base limits (step ∷ before) → begins p step.what ≡ false → kept base limits (step ∷ before) p ≡ Some k → KeptIn before k.space
  unfolding IsLegal kept socket_with
  space-before step before k legal other is = on (find (has_id pid_of p) (sockets base (step ∷ before))) (session_with p (sessions base limits (step ∷ before))) refl refl is
    where
      on : (here : Option Socket) (away : Option PlainSaved) → find (has_id pid_of p) (sockets base (step ∷ before)) ≡ here → session_with p (sessions base limits (step ∷ before)) ≡ away
          → option_or (option_map (kept_by_socket base (step ∷ before)) here) (option_map kept_by_saved away) ≡ Some k → KeptIn before k.space
      on (Some l) away found saved e =
          let same : l.space ≡ k.space = ap (λ (z : Kept). z.space) (same-some (kept_by_socket base (step ∷ before) l) k e) in
          let was = socket-before step.at before step.what l legal.2 legal.0 other found in
          (was.0, was.1, was.2 ∙ same)
      on None (Some s) found saved e =
          let same : s.space ≡ k.space = ap (λ (z : Kept). z.space) (same-some (kept_by_saved s) k e) in
          let was = away-before step before s legal.2 saved in
          (was.0, was.1, was.2 ∙ same)
      on None None found saved e = absurd (cc e)

  -- ---- what it kept to its loss it keeps until it comes back

  -- at each moment since the broadcast with the offset, since the session began, or since the base, it keeps just this
  unfoldable pub KeepsAll : ℕ → Option Kept → List Step → Type 0
  KeepsAll o k [] = kept base limits [] p ≡ k
  KeepsAll o k (step ∷ before) = (kept base limits (step ∷ before) p ≡ k) × (has (given step.what) o ≡ false → begins p step.what ≡ false → KeepsAll o k before)

  rooms-now : (o : ℕ) (rooms : List ℕ → Bool) (journal : List Step) → KeepsSince base limits p o rooms journal → (room : List ℕ) → kept_rooms base limits journal p room ≡ rooms room
  unfolding KeepsSince
  rooms-now o rooms [] h = h
  rooms-now o rooms (step ∷ before) h = h.0

  -- one that kept its rooms kept all
  keeps-all : (o : ℕ) (k : Kept) (journal : List Step) → IsLegal base limits journal → kept base limits journal p ≡ Some k → KeepsSince base limits p o k.is_room journal → KeepsAll o (Some k) journal
  unfolding KeepsSince KeepsAll IsLegal
  keeps-all o k [] legal is since = is
  keeps-all o k (step ∷ before) legal is since = (
    is,
    λ other unbegun.
        let was = space-before step before k legal unbegun is in
        let same : (room : List ℕ) → was.0.is_room room ≡ k.is_room room
        = λ room. sym (ap (λ o. option_map_or (λ (z : Kept). z.is_room room) o false) was.1) ∙ rooms-now o k.is_room before (since.1 other) room in
        let all : was.0 ≡ k = λ i. record { space = was.2 i; is_room = λ room. same room i } in
        keeps-all o k before legal.2 (was.1 ∙ ap (λ z. Some z) all) (since.1 other),
  )

  pub still-keeps : (o : ℕ) (journal : List Step) (s : PlainSaved) → IsLegal base limits journal → session_with p (sessions base limits journal) ≡ Some s → KeepsItsRooms base limits journal p o
      → KeepsAll o (Some (kept_by_saved s)) journal
  unfolding KeepsAll until_lost IsLegal
  still-keeps o [] s legal found was = keeps-saved [] s legal found
  still-keeps o (step ∷ before) s legal found was = (keeps-saved (step ∷ before) s legal found, λ other unbegun. on (loses base before p step.what) refl was (still-keeps o before s legal.2))
    where
      on : (b : Bool) → loses base before p step.what ≡ b
          → KeepsSince base limits p o (kept_rooms base limits (if b then before else until_lost base before p) p) (if b then before else until_lost base before p)
          → (session_with p (sessions base limits before) ≡ Some s → KeepsSince base limits p o (kept_rooms base limits (until_lost base before p) p) (until_lost base before p) → KeepsAll o (Some (kept_by_saved s)) before)
          → KeepsAll o (Some (kept_by_saved s)) before
      on true l was rest =
          let is = loss-keeps step.at before s step.what legal.2 l (sym (ap (session_with p) (sessions-are step before)) ∙ found) in
          keeps-all o (kept_by_saved s) before legal.2 is
          (subst (λ rooms. KeepsSince base limits p o rooms before) (λ i room. option_map_or (λ (z : Kept). z.is_room room) (is i) false) was)
      on false l was rest = rest (saved-before step before s legal.2 l found) was
