-- What one more step makes of the clients, the sockets, the rooms and the saved sessions of two histories that say the same.
use Rattle.std.proofs.Common.{◌≡◌, ℕ, ◌==◌, Bool, true, false, ◌&&◌, ◌||◌, not, List, [], ◌∷◌, ◌++◌, length, filter, map, refl, sym, ◌∙◌, ap, if◌then◌else◌, Option, None, Some, nat_eq}
use Rattle.std.specs.List.{list_any, find, AllByRecursion}
use Rattle.std.specs.Option.{option_or}
use Rattle.std.specs.Set.{is_member}
use Rattle.std.proofs.lemmas.Cmp.{nat_eq_equiv}
use Rattle.std.proofs.lemmas.List.Elements.{filter-append}
use Rattle.std.proofs.lemmas.List.Folds.{list_any-append, find-append}
use Rattle.std.proofs.lemmas.Map.Made.{length-from_same_keys}
use Rattle.room_maps.specs.Membership.{is_socket, is_in, with_socket, with_socket_in, with_pair, without_pair, with_members, without_members, without_socket}
use Rattle.room_maps.proofs.MembershipLemmas.{same_sets}
use Rattle.recovery.specs.SavedTable.{PlainSaved}
use Rattle.recovery.specs.Expiry.{is_outdated}
use Rattle.journal.specs.declared.socket.Socket.{Socket}
use Rattle.journal.specs.declared.step.Step.{Step}
use Rattle.journal.specs.declared.step.What.{What}
use Rattle.journal.specs.declared.step.What.TheVariants.{Attached, Recovered, Joined, Left, AllJoined, AllLeft, Parked, Ended, AllEnded, Closed, Swept}
use Rattle.journal.specs.Plain.{PlainBase, Limits}
use Rattle.journal.specs.Journal.{history}
use Rattle.journal.specs.Membership.{opens, closes, open_clients, is_open, connects, ends, sockets, sid_of, pid_of, has_id, socket_with, sockets_of, socket_of, rooms, rooms_after, without_sockets}
use Rattle.journal.specs.Sessions.{with_sessions, sessions, sessions_after}
use Rattle.journal.specs.Parking.{lost_in}
use Rattle.journal.specs.Legal.{EachTwo, AreApart, IsSound}
use Rattle.journal.specs.Seal.{SaysTheSame}
use Rattle.journal.proofs.SumsLemmas.{member-filter}
use Rattle.journal.proofs.EndLemmas.{DifferBy, sids-differ, pids-differ, no-other, find-none, none-filter, filter-swap, is_socket-without_sockets, ended_by}
use Rattle.journal.proofs.LastWordLemmas.{is_in-without_sockets}
use Rattle.journal.proofs.CastLemmas.{any-filter, any-same, each-found}
use Rattle.journal.proofs.CountsLemmas.{is_open-member}

-- ---- lists of sockets

-- the socket, where it passes the test
abbrev if_passes : (Socket → Bool) → Option Socket → Option Socket
if_passes t None = None
if_passes t (Some k) = if t k then Some k else None

-- of those that a filter keeps the same one is found, or none
find-kept : (id : Socket → ℕ) (t : Socket → Bool) (x : ℕ) (ks : List Socket) → EachTwo (DifferBy id) ks → find (has_id id x) (filter t ks) ≡ if_passes t (find (has_id id x) ks)
unfolding EachTwo
find-kept id t x [] differ = refl
find-kept id t x (k ∷ ks) differ = on (id k == x) (t k) refl refl (find-kept id t x ks differ.1)
  where
    on : (b u : Bool) → (id k == x) ≡ b → t k ≡ u → find (has_id id x) (filter t ks) ≡ if_passes t (find (has_id id x) ks)
        → find (has_id id x) (if u then k ∷ filter t ks else filter t ks) ≡ if_passes t (if b then Some k else find (has_id id x) ks)
    on true true e f rest = rw (e, f) refl
    on true false e f rest = rw f (find-none (has_id id x) (filter t ks) (none-filter (has_id id x) t ks (no-other id x k ks differ.0 e)))
    on false true e f rest = rw e rest
    on false false e f rest = rest

same-truth : (a b : Bool) → (a ≡ true → b ≡ true) → (b ≡ true → a ≡ true) → a ≡ b
same-truth true b to from = sym (to refl)
same-truth false true to from = from refl
same-truth false false to from = refl

-- one that passes
passing : (P : Socket → Type 0) (p : Socket → Bool) (ks : List Socket) → AllByRecursion P ks → list_any p ks ≡ true → (k : Socket) × P k × (p k ≡ true)
passing P p [] all e = absurd (cc e)
passing P p (k ∷ ks) all e = on (p k) refl e (passing P p ks all.1)
  where
    on : (b : Bool) → p k ≡ b → (b || list_any p ks) ≡ true → (list_any p ks ≡ true → (k : Socket) × P k × (p k ≡ true)) → (k : Socket) × P k × (p k ≡ true)
    on true is e rest = (k, all.0, is)
    on false is e rest = rest e

any-found : (p q : Socket → Bool) (k : Socket) (ks : List Socket) → find q ks ≡ Some k → p k ≡ true → list_any p ks ≡ true
any-found p q k [] found e = absurd (cc found)
any-found p q k (l ∷ ks) found e = on (q l) found (λ is. any-found p q k ks is e)
  where
    either : (b : Bool) → (b || true) ≡ true
    either true = refl
    either false = refl

    on : (b : Bool) → (if b then Some l else find q ks) ≡ Some k → (find q ks ≡ Some k → list_any p ks ≡ true) → (p l || list_any p ks) ≡ true
    on true is rest = let same : l ≡ k = cc in rw (same, e) refl
    on false is rest = ap (λ r. p l || r) (rest is) ∙ either (p l)

-- where by each id the same socket is found, the same tests are passed
any-by-found : (ks ls : List Socket) → EachTwo AreApart ks → ((s : ℕ) → find (has_id sid_of s) ks ≡ find (has_id sid_of s) ls) → (p : Socket → Bool) → list_any p ks ≡ true → list_any p ls ≡ true
any-by-found ks ls apart same p e =
    let one = passing (λ (k : Socket). find (has_id sid_of k.sid) ks ≡ Some k) p ks (each-found ks apart) e in
    any-found p (has_id sid_of (sid_of one.0)) one.0 ls (sym (same (sid_of one.0)) ∙ one.1) one.2

pub same-any : (ks ls : List Socket) → EachTwo AreApart ks → EachTwo AreApart ls → ((s : ℕ) → find (has_id sid_of s) ks ≡ find (has_id sid_of s) ls) → (p : Socket → Bool) → list_any p ks ≡ list_any p ls
same-any ks ls apart apart' same p = same-truth (list_any p ks) (list_any p ls) (any-by-found ks ls apart same p) (any-by-found ls ks apart' (λ s. sym (same s)) p)

-- ---- one step of one history

module _ (base : PlainBase) (step : Step) (before : List Step) where
  pub is_open-step : (c : ℕ) → is_open base (step ∷ before) c ≡ ((is_open base before c && not (closes step.what c)) || is_member nat_eq (opens step.what) c)
  unfolding is_open open_clients
  is_open-step c =
      list_any-append (nat_eq c) (filter (λ c. not (closes step.what c)) (open_clients base before)) (opens step.what)
      ∙ ap (λ b. b || is_member nat_eq (opens step.what) c) (member-filter (λ c. not (closes step.what c)) c (open_clients base before))

  sockets_of-step : (c : ℕ) → sockets_of base (step ∷ before) c ≡ filter (λ k. not (ends step.what k)) (sockets_of base before c) ++ filter (λ (k : Socket). k.client == c) (connects step.what)
  unfolding sockets_of sockets
  sockets_of-step c =
      filter-append (λ (k : Socket). k.client == c) (filter (λ k. not (ends step.what k)) (sockets base before)) (connects step.what)
      ∙ ap (λ ks. ks ++ filter (λ (k : Socket). k.client == c) (connects step.what)) (filter-swap (λ (k : Socket). k.client == c) (λ k. not (ends step.what k)) (sockets base before))

  socket_with-step : (id : Socket → ℕ) → EachTwo (DifferBy id) (sockets base before) → (x : ℕ)
      → socket_with id base (step ∷ before) x ≡ option_or (if_passes (λ k. not (ends step.what k)) (socket_with id base before x)) (find (has_id id x) (connects step.what))
  unfolding socket_with sockets
  socket_with-step id differ x =
      find-append (has_id id x) (filter (λ k. not (ends step.what k)) (sockets base before)) (connects step.what)
      ∙ ap (λ o. option_or o (find (has_id id x) (connects step.what))) (find-kept id (λ k. not (ends step.what k)) x (sockets base before) differ)

-- ---- two histories

module _ (limits : Limits) (base base' : PlainBase) (before before' : List Step) (sound : IsSound base limits before) (sound' : IsSound base' limits before') (same : SaysTheSame (history base limits before) (history base' limits before')) where
  by-sid : (s : ℕ) → find (has_id sid_of s) (sockets base' before') ≡ find (has_id sid_of s) (sockets base before)
  unfolding socket_with
  by-sid = same.same_by_sid

  -- the sockets pass the same tests, in whichever order they stand
  pub any-socket : (p : Socket → Bool) → list_any p (sockets base' before') ≡ list_any p (sockets base before)
  any-socket = same-any (sockets base' before') (sockets base before) sound'.sockets_apart sound.sockets_apart by-sid

  -- also where the tests agree on the sockets of open clients alone
  pub any-socket-as : (p' p : Socket → Bool) → ((k : Socket) → is_open base before k.client ≡ true → p' k ≡ p k) → list_any p' (sockets base' before') ≡ list_any p (sockets base before)
  any-socket-as p' p agree = any-socket p' ∙ any-same (λ (k : Socket). is_open base before k.client ≡ true) p' p agree (sockets base before) sound.of_open_clients

  pub as-many-clients : length (open_clients base' before') ≡ length (open_clients base before)
  as-many-clients = length-from_same_keys nat_eq_equiv (open_clients base' before') (open_clients base before) sound'.clients_once sound.clients_once
      (λ q. sym (is_open-member base' before' q) ∙ same.same_open q ∙ is_open-member base before q)

  pub socket_of-same : (c space : ℕ) → socket_of base' before' c space ≡ socket_of base before c space
  unfolding socket_of
  socket_of-same c space = ap (find (λ (k : Socket). k.space == space)) (same.same_sockets c)

  -- the same sockets end
  any-ended : (what : What) (p : Socket → Bool) → list_any p (ended_by base' before' what) ≡ list_any p (ended_by base before what)
  any-ended what p = any-filter p (ends what) (sockets base' before') ∙ any-socket (λ k. p k && ends what k) ∙ sym (any-filter p (ends what) (sockets base before))

  pub rooms_after-same : (what : What) → rooms_after base' before' (rooms base' before') what ≡ rooms_after base before (rooms base before) what
  rooms_after-same (Attached k) = ap (λ sets. with_socket sets k.sid) same.same_rooms
  rooms_after-same (Recovered r) = ap (λ sets. with_socket_in sets r.socket.sid r.rooms) same.same_rooms
  rooms_after-same (Joined s room) = ap (λ sets. with_pair sets s room) same.same_rooms
  rooms_after-same (Left s room) = ap (λ sets. without_pair sets s room) same.same_rooms
  rooms_after-same (AllJoined m) = ap (λ sets. with_members sets m.changed m.room) same.same_rooms
  rooms_after-same (AllLeft m) = ap (λ sets. without_members sets m.changed m.room) same.same_rooms
  rooms_after-same (Ended s by) = ap (λ sets. without_socket sets s) same.same_rooms
  rooms_after-same (Parked c) = λ i. without_sockets (same.same_rooms i) (same.same_sockets c i)
  rooms_after-same (Closed c) = λ i. without_sockets (same.same_rooms i) (same.same_sockets c i)
  rooms_after-same (AllEnded d) =
      same_sets _ _
      (λ s. is_socket-without_sockets (ended_by base' before' (AllEnded d)) (rooms base' before') s
      ∙ (λ i. if any-ended (AllEnded d) (has_id sid_of s) i then false else is_socket (same.same_rooms i) s)
      ∙ sym (is_socket-without_sockets (ended_by base before (AllEnded d)) (rooms base before) s))
      (λ s room. is_in-without_sockets (ended_by base' before' (AllEnded d)) (rooms base' before') s room
      ∙ (λ i. not (any-ended (AllEnded d) (has_id sid_of s) i) && is_in (same.same_rooms i) s room)
      ∙ sym (is_in-without_sockets (ended_by base before (AllEnded d)) (rooms base before) s room))
  rooms_after-same _ = same.same_rooms

  pub sessions_after-same : (at : ℕ) (what : What) → sessions_after base' limits before' at (sessions base' limits before') what ≡ sessions_after base limits before at (sessions base limits before) what
  sessions_after-same at (Parked c) = λ i. with_sessions (map (lost_in (same.same_rooms i) at) (same.same_sockets c i)) (same.same_sessions i)
  sessions_after-same at (Recovered r) = ap (filter (λ (s : PlainSaved). not (s.pid == r.socket.pid))) same.same_sessions
  sessions_after-same at Swept = ap (filter (λ (s : PlainSaved). not (is_outdated limits.keep at s.lost_at))) same.same_sessions
  sessions_after-same at _ = same.same_sessions

  -- ---- after one more step

  module _ (step : Step) where
    pub open-after : (c : ℕ) → is_open base' (step ∷ before') c ≡ is_open base (step ∷ before) c
    open-after c = is_open-step base' step before' c ∙ ap (λ b. (b && not (closes step.what c)) || is_member nat_eq (opens step.what) c) (same.same_open c) ∙ sym (is_open-step base step before c)

    pub sockets-after : (c : ℕ) → sockets_of base' (step ∷ before') c ≡ sockets_of base (step ∷ before) c
    sockets-after c =
        sockets_of-step base' step before' c
        ∙ ap (λ ks. filter (λ k. not (ends step.what k)) ks ++ filter (λ (k : Socket). k.client == c) (connects step.what)) (same.same_sockets c)
        ∙ sym (sockets_of-step base step before c)

    found-after : (id : Socket → ℕ) → EachTwo (DifferBy id) (sockets base' before') → EachTwo (DifferBy id) (sockets base before) → ((x : ℕ) → socket_with id base' before' x ≡ socket_with id base before x)
        → (x : ℕ) → socket_with id base' (step ∷ before') x ≡ socket_with id base (step ∷ before) x
    found-after id differ' differ was x =
        socket_with-step base' step before' id differ' x
        ∙ ap (λ o. option_or (if_passes (λ k. not (ends step.what k)) o) (find (has_id id x) (connects step.what))) (was x)
        ∙ sym (socket_with-step base step before id differ x)

    pub by_sid-after : (s : ℕ) → socket_with sid_of base' (step ∷ before') s ≡ socket_with sid_of base (step ∷ before) s
    by_sid-after = found-after sid_of (sids-differ (sockets base' before') sound'.sockets_apart) (sids-differ (sockets base before) sound.sockets_apart) same.same_by_sid

    pub by_pid-after : (p : ℕ) → socket_with pid_of base' (step ∷ before') p ≡ socket_with pid_of base (step ∷ before) p
    by_pid-after = found-after pid_of (pids-differ (sockets base' before') sound'.sockets_apart) (pids-differ (sockets base before) sound.sockets_apart) same.same_by_pid

    pub rooms-after : rooms base' (step ∷ before') ≡ rooms base (step ∷ before)
    unfolding rooms
    rooms-after = rooms_after-same step.what

    pub sessions-after : sessions base' limits (step ∷ before') ≡ sessions base limits (step ∷ before)
    unfolding sessions
    sessions-after = sessions_after-same step.at step.what
