-- What ending sockets makes of a hub, one alone or all of a client.
use Rattle.std.proofs.Common.{zero, suc, ◌≡◌, ◌≢◌, ℕ, ◌+◌, ◌<◌, ◌≤◌, ◌==◌, Bool, true, false, ◌&&◌, ◌||◌, not, List, [], ◌∷◌, ◌++◌, length, filter, take, max, refl, sym, ◌∙◌, ap, subst, arith, if◌then◌else◌, Option, None, Some, nat_eq, append-nil, add-one}
use Rattle.std.specs.Prelude.{is_some, slice_index_or}
use Rattle.std.specs.List.{list_any, find, IsDistinct, AllByRecursion}
use Rattle.std.specs.Option.{option_map}
use Rattle.std.proofs.lemmas.Bool.{eqb-true, eq-eqb}
use Rattle.room_maps.specs.Membership.{RoomSets, AreConsistent, is_socket, without_socket}
use Rattle.room_maps.proofs.MembershipLaws.{is_socket-without_socket}
use Rattle.recovery.specs.PacketLog.{LogContents}
use Rattle.recovery.specs.SavedTable.{PlainSaved, TableContents}
use Rattle.journal.specs.declared.socket.Socket.{Socket}
use Rattle.journal.specs.declared.step.Step.{Step}
use Rattle.journal.specs.declared.step.What.{What}
use Rattle.journal.specs.declared.ending.Side.{Side}
use Rattle.journal.specs.declared.ending.Side.TheVariants.{Server}
use Rattle.journal.specs.declared.step.What.TheVariants.{Ended}
use Rattle.journal.specs.declared.totals.Counts.{Counts}
use Rattle.journal.specs.Plain.{PlainBase, Limits, PlainClient}
use Rattle.journal.specs.Journal.{moment}
use Rattle.journal.specs.Membership.{open_clients, is_open, connects, ends, sockets, sid_of, pid_of, has_id, socket_with, is_connected, sockets_of, is_space, rooms, rooms_after, without_sockets}
use Rattle.journal.specs.Sessions.{sessions}
use Rattle.journal.specs.Log.{log, next}
use Rattle.journal.specs.Outboxes.{put, taken_by, waiting}
use Rattle.journal.specs.Totals.{placed_by, is_spent, IsConserved}
use Rattle.journal.specs.Refusals.{or_spent, end_refusal}
use Rattle.journal.specs.Legal.{IsAllowed, IsLegal, IsSound, IsAway, EachTwo, AreApart}
use Rattle.journal.specs.Fields.{Fields, Counted, CanCount, client_at, without_place}
use Rattle.journal.proofs.SumsLemmas.{sum-zero}
use Rattle.journal.proofs.MembershipLemmas.{clients-quiet, is_open-quiet}
use Rattle.journal.proofs.OutboxesLemmas.{waiting-quiet}
use Rattle.journal.proofs.TotalsLemmas.{conserved-step, flow-quiet}
use Rattle.journal.proofs.SessionsLemmas.{LeavesBacklog, BacklogIsSound, sessions-quiet, table-quiet, packets-quiet, backlog-quiet, is_some-find}
use Rattle.journal.proofs.HubLemmas.{legal-step, rooms-step}
use Rattle.journal.proofs.CountsLemmas.{counted, can, unspent}
use Rattle.journal.proofs.CommandLemmas.{IsHub}

-- ---- lists of sockets

neither : (a b : Bool) → (a || b) ≡ false → (a ≡ false) × (b ≡ false)
neither true b e = cc
neither false b e = (refl, e)

or-none : (b : Bool) → (b || false) ≡ b
or-none true = refl
or-none false = refl

-- what all have they have after a filter, and what follows from it where the test passes
pub all-passing : {A : Type 0} (P Q : A → Type 0) (test : A → Bool) → ((x : A) → P x → test x ≡ true → Q x) → (xs : List A) → AllByRecursion P xs → AllByRecursion Q (filter test xs)
all-passing P Q test to [] h = tt
all-passing P Q test to (x ∷ xs) h = on (all-passing P Q test to xs h.1) (test x) refl
  where
    on : AllByRecursion Q (filter test xs) → (b : Bool) → test x ≡ b → AllByRecursion Q (if b then x ∷ filter test xs else filter test xs)
    on rest true e = (to x h.0 e, rest)
    on rest false e = rest

pub all-filter : {A : Type 0} (P : A → Type 0) (test : A → Bool) (xs : List A) → AllByRecursion P xs → AllByRecursion P (filter test xs)
all-filter P test = all-passing P P test (λ x h e. h)

pub each-filter : {A : Type 0} (R : A → A → Type 0) (test : A → Bool) (xs : List A) → EachTwo R xs → EachTwo R (filter test xs)
unfolding EachTwo
each-filter R test [] h = h
each-filter R test (x ∷ xs) h = elim (test x) as (λ b. EachTwo R (if b then x ∷ filter test xs else filter test xs)) [
  | true ↦ (all-filter (R x) test xs h.0, each-filter R test xs h.1)
  | false ↦ each-filter R test xs h.1
]

pub all-by : {A : Type 0} (P Q : A → Type 0) → ((x : A) → P x → Q x) → (xs : List A) → AllByRecursion P xs → AllByRecursion Q xs
all-by P Q to [] h = tt
all-by P Q to (x ∷ xs) h = (to x h.0, all-by P Q to xs h.1)

each-by : {A : Type 0} (R S : A → A → Type 0) → ((x y : A) → R x y → S x y) → (xs : List A) → EachTwo R xs → EachTwo S xs
unfolding EachTwo
each-by R S to [] h = h
each-by R S to (x ∷ xs) h = (all-by (R x) (S x) (to x) xs h.0, each-by R S to xs h.1)

pub none-filter : {A : Type 0} (p test : A → Bool) (xs : List A) → list_any p xs ≡ false → list_any p (filter test xs) ≡ false
none-filter p test [] e = refl
none-filter p test (x ∷ xs) e = let h = neither (p x) (list_any p xs) e in elim (test x) as (λ b. list_any p (if b then x ∷ filter test xs else filter test xs) ≡ false) [
  | true ↦ rw (h.0) (none-filter p test xs h.1)
  | false ↦ none-filter p test xs h.1
]

pub find-none : {A : Type 0} (p : A → Bool) (xs : List A) → list_any p xs ≡ false → find p xs ≡ None
find-none p [] e = refl
find-none p (x ∷ xs) e = let h = neither (p x) (list_any p xs) e in rw (h.0) (find-none p xs h.1)

-- two sockets with different ids
abbrev pub DifferBy : (Socket → ℕ) → Socket → Socket → Type 0
DifferBy id k l = id k ≢ id l

pub sids-differ : (ks : List Socket) → EachTwo AreApart ks → EachTwo (DifferBy sid_of) ks
sids-differ ks h = each-by AreApart (DifferBy sid_of) (λ k l a. a.0) ks h

pub pids-differ : (ks : List Socket) → EachTwo AreApart ks → EachTwo (DifferBy pid_of) ks
pids-differ ks h = each-by AreApart (DifferBy pid_of) (λ k l a. a.1) ks h

-- a socket's id is that of no other
pub no-other : (id : Socket → ℕ) (x : ℕ) (k : Socket) (ks : List Socket) → AllByRecursion (DifferBy id k) ks → (id k == x) ≡ true → list_any (has_id id x) ks ≡ false
no-other id x k [] h e = refl
no-other id x k (l ∷ ks) h e = on (no-other id x k ks h.1 e) (id l == x) refl
  where
    on : list_any (has_id id x) ks ≡ false → (b : Bool) → (id l == x) ≡ b → (b || list_any (has_id id x) ks) ≡ false
    on rest true is = absurd (h.0 (eqb-true (id k) x e ∙ sym (eqb-true (id l) x is)))
    on rest false is = rest

-- the socket that has an id, after some sockets were taken out
pub find-out : (id : Socket → ℕ) (out : Socket → Bool) (x : ℕ) (ks : List Socket) → EachTwo (DifferBy id) ks
    → find (has_id id x) (filter (λ k. not (out k)) ks) ≡ (if list_any (has_id id x) (filter out ks) then None else find (has_id id x) ks)
unfolding EachTwo
find-out id out x [] apart = refl
find-out id out x (k ∷ ks) apart = on (find-out id out x ks apart.1) (out k) (id k == x) refl
  where
    on : find (has_id id x) (filter (λ k. not (out k)) ks) ≡ (if list_any (has_id id x) (filter out ks) then None else find (has_id id x) ks)
        → (o b : Bool) → (id k == x) ≡ b
        → find (has_id id x) (if not o then k ∷ filter (λ k. not (out k)) ks else filter (λ k. not (out k)) ks)
        ≡ (if list_any (has_id id x) (if o then k ∷ filter out ks else filter out ks) then None else (if b then Some k else find (has_id id x) ks))
    on rest true true e = rw e (find-none (has_id id x) (filter (λ k. not (out k)) ks) (none-filter (has_id id x) (λ k. not (out k)) ks (no-other id x k ks apart.0 e)))
    on rest true false e = rw e rest
    on rest false true e = rw (e, none-filter (has_id id x) out ks (no-other id x k ks apart.0 e)) refl
    on rest false false e = rw e rest

-- ---- the loop over the sockets that end

-- none of the first has the id of the next
before-it : (id : Socket → ℕ) (d : Socket) (i : ℕ) (ks : List Socket) → EachTwo (DifferBy id) ks → i < length ks → list_any (has_id id (id (slice_index_or ks i d))) (take i ks) ≡ false
unfolding EachTwo
before-it id d i [] apart lt = absurd (omega arith)
before-it id d zero (k ∷ ks) apart lt = refl
before-it id d (suc i) (k ∷ ks) apart lt = rw (differs ks i apart.0 (omega arith)) (before-it id d i ks apart.1 (omega arith))
  where
    differs : (ls : List Socket) (j : ℕ) → AllByRecursion (DifferBy id k) ls → j < length ls → (id k == id (slice_index_or ls j d)) ≡ false
    differs [] j h lt = absurd (omega arith)
    differs (l ∷ ls) zero h lt = on (id k == id l) refl
      where
        on : (b : Bool) → (id k == id l) ≡ b → b ≡ false
        on true e = absurd (h.0 (eqb-true (id k) (id l) e))
        on false e = refl
    differs (l ∷ ls) (suc j) h lt = differs ls j h.1 (omega arith)

pub any-next : {A : Type 0} (p : A → Bool) (d : A) (i : ℕ) (xs : List A) → i < length xs → list_any p (take (suc i) xs) ≡ (p (slice_index_or xs i d) || list_any p (take i xs))
any-next p d i [] lt = absurd (omega arith)
any-next p d zero (x ∷ xs) lt = refl
any-next p d (suc i) (x ∷ xs) lt = ap (λ b. p x || b) (any-next p d i xs (omega arith)) ∙ turn (p x) (p (slice_index_or xs i d)) (list_any p (take i xs))
  where
    turn : (a b c : Bool) → (a || (b || c)) ≡ (b || (a || c))
    turn true true c = refl
    turn true false c = refl
    turn false b c = refl

out-next : (d : Socket) (i : ℕ) (ks : List Socket) (sets : RoomSets) → i < length ks → without_sockets sets (take (suc i) ks) ≡ without_socket (without_sockets sets (take i ks)) ((slice_index_or ks i d).sid)
unfolding without_sockets
out-next d i [] sets lt = absurd (omega arith)
out-next d zero (k ∷ ks) sets lt = refl
out-next d (suc i) (k ∷ ks) sets lt = out-next d i ks (without_socket sets k.sid) (omega arith)

-- who is known after the sockets were ended
pub is_socket-without_sockets : (ks : List Socket) (sets : RoomSets) (s : ℕ) → is_socket (without_sockets sets ks) s ≡ (if list_any (has_id sid_of s) ks then false else is_socket sets s)
unfolding without_sockets
is_socket-without_sockets [] sets s = refl
is_socket-without_sockets (k ∷ ks) sets s =
    is_socket-without_sockets ks (without_socket sets k.sid) s ∙ ap (λ b. if list_any (has_id sid_of s) ks then false else b) (is_socket-without_socket sets k.sid s)
    ∙ on (k.sid == s) (list_any (has_id sid_of s) ks) (is_socket sets s)
  where
    on : (a b o : Bool) → (if b then false else (not a && o)) ≡ (if a || b then false else o)
    on true true o = refl
    on true false o = refl
    on false true o = refl
    on false false o = refl

known-at : (P : Socket → Type 0) (d : Socket) (i : ℕ) (ks : List Socket) → AllByRecursion P ks → i < length ks → P (slice_index_or ks i d)
known-at P d i [] h lt = absurd (omega arith)
known-at P d zero (k ∷ ks) h lt = h.0
known-at P d (suc i) (k ∷ ks) h lt = known-at P d i ks h.1 (omega arith)

-- the next socket is still known
pub next-known : (k : Socket) (i : ℕ) (ks : List Socket) (sets mid : RoomSets) → AllByRecursion (λ (k : Socket). is_socket sets k.sid ≡ true) ks → EachTwo AreApart ks → i < length ks → k ≡ slice_index_or ks i k
    → mid ≡ without_sockets sets (take i ks) → is_socket mid k.sid ≡ true
next-known k i ks sets mid known apart lt is so =
    ap (λ m. is_socket m k.sid) so
    ∙ is_socket-without_sockets (take i ks) sets k.sid
    ∙ ap (λ b. if b then false else is_socket sets k.sid) (ap (λ (l : Socket). list_any (has_id sid_of l.sid) (take i ks)) is ∙ before-it sid_of k i ks (sids-differ ks apart) lt)
    ∙ ap (λ (l : Socket). is_socket sets l.sid) is ∙ known-at (λ (k : Socket). is_socket sets k.sid ≡ true) k i ks known lt

-- one more socket's id is forgotten
pub forgotten-next : {V : Type 0} (id : Socket → ℕ) (none : V) (k : Socket) (i : ℕ) (ks : List Socket) (was mid new : ℕ → V) → i < length ks → k ≡ slice_index_or ks i k
    → ((x : ℕ) → mid x ≡ (if list_any (has_id id x) (take i ks) then none else was x))
    → ((x : ℕ) → new x ≡ (if id k == x then none else mid x))
    → (x : ℕ) → new x ≡ (if list_any (has_id id x) (take (i + 1) ks) then none else was x)
forgotten-next id none k i ks was mid new lt is first second x =
    second x ∙ ap (λ v. if id k == x then none else v) (first x)
    ∙ on (id k == x) (list_any (has_id id x) (take i ks))
    ∙ ap (λ (l : Socket). if (id l == x || list_any (has_id id x) (take i ks)) then none else was x) is
    ∙ ap (λ b. if b then none else was x) (sym (any-next (has_id id x) k i ks lt))
    ∙ ap (λ n. if list_any (has_id id x) (take n ks) then none else was x) (sym (add-one i))
  where
    on : (a b : Bool) → (if a then none else (if b then none else was x)) ≡ (if a || b then none else was x)
    on true b = refl
    on false b = refl

-- one more socket has left all its rooms
pub out-more : (k : Socket) (i : ℕ) (ks : List Socket) (sets mid new : RoomSets) → i < length ks → k ≡ slice_index_or ks i k → mid ≡ without_sockets sets (take i ks) → new ≡ without_socket mid k.sid
    → new ≡ without_sockets sets (take (i + 1) ks)
out-more k i ks sets mid new lt is first second =
    second ∙ ap (λ m. without_socket m k.sid) first ∙ ap (λ (l : Socket). without_socket (without_sockets sets (take i ks)) l.sid) is
    ∙ sym (out-next k i ks sets lt) ∙ ap (λ n. without_sockets sets (take n ks)) (sym (add-one i))

-- ---- a step that ends sockets, and connects none

-- the sockets that the step ends
abbrev pub ended_by : PlainBase → List Step → What → List Socket
ended_by base before what = filter (ends what) (sockets base before)

some-unless : {A : Type 0} (b : Bool) (o : Option A) → is_some (if b then None else o) ≡ (if b then false else is_some o)
some-unless true o = refl
some-unless false o = refl

away-filter : (test : Socket → Bool) (ks : List Socket) (ss : List PlainSaved) → AllByRecursion (IsAway ks) ss → AllByRecursion (IsAway (filter test ks)) ss
away-filter test ks = all-by (IsAway ks) (IsAway (filter test ks)) (λ s h. (none-filter (λ (k : Socket). k.sid == s.sid) test ks h.0, none-filter (λ (k : Socket). k.pid == s.pid) test ks h.1))

-- each socket of a list is found in it
all-found : (id : Socket → ℕ) (ks : List Socket) → AllByRecursion (λ (k : Socket). list_any (has_id id (id k)) ks ≡ true) ks
all-found id [] = tt
all-found id (k ∷ ks) = (ap (λ b. b || list_any (has_id id (id k)) ks) (eq-eqb (id k) (id k) refl), all-by (λ (l : Socket). list_any (has_id id (id l)) ks ≡ true) (λ (l : Socket). list_any (has_id id (id l)) (k ∷ ks) ≡ true) (λ l h. rw h (either (id k == id l))) ks (all-found id ks))
  where
    either : (b : Bool) → (b || true) ≡ true
    either true = refl
    either false = refl

module _ (base : PlainBase) (limits : Limits) where
  -- the rooms know each connected socket
  pub all-known : (before : List Step) (sets : RoomSets) → IsSound base limits before → sets ≡ rooms base before → AllByRecursion (λ (k : Socket). is_socket sets k.sid ≡ true) (sockets base before)
  unfolding socket_with
  all-known before sets was same =
      all-by (λ (k : Socket). list_any (has_id sid_of k.sid) (sockets base before) ≡ true) (λ (k : Socket). is_socket sets k.sid ≡ true)
      (λ k h. ap (λ v. is_socket v k.sid) same ∙ was.seated k.sid ∙ is_some-find (has_id sid_of k.sid) (sockets base before) ∙ h)
      (sockets base before) (all-found sid_of (sockets base before))

module _ (base : PlainBase) (limits : Limits) (step : Step) (before : List Step) (none : connects step.what ≡ []) where
  pub sockets-ended : sockets base (step ∷ before) ≡ filter (λ k. not (ends step.what k)) (sockets base before)
  unfolding sockets
  sockets-ended = ap (λ l. filter (λ k. not (ends step.what k)) (sockets base before) ++ l) none ∙ append-nil (filter (λ k. not (ends step.what k)) (sockets base before))

  socket_with-ended : (id : Socket → ℕ) → EachTwo (DifferBy id) (sockets base before) → (x : ℕ)
      → socket_with id base (step ∷ before) x ≡ (if list_any (has_id id x) (ended_by base before step.what) then None else socket_with id base before x)
  unfolding socket_with
  socket_with-ended id differ x = ap (find (has_id id x)) sockets-ended ∙ find-out id (ends step.what) x (sockets base before) differ

  connected-ended : (id : Socket → ℕ) → EachTwo (DifferBy id) (sockets base before) → (x : ℕ)
      → is_connected id base (step ∷ before) x ≡ (if list_any (has_id id x) (ended_by base before step.what) then false else is_connected id base before x)
  connected-ended id differ x = ap is_some (socket_with-ended id differ x) ∙ some-unless (list_any (has_id id x) (ended_by base before step.what)) (socket_with id base before x)

  -- saved sessions that are away stay away
  pub away-ended : (ss : List PlainSaved) → AllByRecursion (IsAway (sockets base before)) ss → AllByRecursion (IsAway (sockets base (step ∷ before))) ss
  away-ended ss was = subst (λ ks. AllByRecursion (IsAway ks) ss) (sym sockets-ended) (away-filter (λ k. not (ends step.what k)) (sockets base before) ss was)

  -- what the maps say where just these sockets were forgotten
  pub ended-fields : (find find' : ℕ → Option PlainClient) (seat seat' : ℕ → Option Socket) (is_pid is_pid' : ℕ → Bool) (sets sets' : RoomSets) (table table' : TableContents) (packets : LogContents) (newest : ℕ)
      → Fields base limits find seat is_pid sets table packets newest before → EachTwo AreApart (sockets base before)
      → ((q : ℕ) → find' q ≡ client_at base limits (step ∷ before) q)
      → (gone : List Socket) → gone ≡ ended_by base before step.what
      → ((s : ℕ) → seat' s ≡ (if list_any (has_id sid_of s) gone then None else seat s))
      → ((p : ℕ) → is_pid' p ≡ (if list_any (has_id pid_of p) gone then false else is_pid p))
      → sets' ≡ rooms_after base before sets step.what
      → table' ≡ record { limit = limits.saved; sessions = sessions base limits (step ∷ before) }
      → packets ≡ record { limit = limits.log; bytes = limits.log_bytes; next = next base (step ∷ before); last = packets.last; entries = log base limits (step ∷ before) }
      → newest ≤ step.at
      → Fields base limits find' seat' is_pid' sets' table' packets step.at (step ∷ before)
  unfolding moment
  ended-fields find find' seat seat' is_pid is_pid' sets sets' table table' packets newest was apart clients gone those seats pids change saved logged late = record {
    clients = clients;
    seats = λ s. seats s ∙ ap (λ o. if list_any (has_id sid_of s) gone then None else o) (was.seats s) ∙ ap (λ l. if list_any (has_id sid_of s) l then None else socket_with sid_of base before s) those
        ∙ sym (socket_with-ended sid_of (sids-differ (sockets base before) apart) s);
    pids = λ p. pids p ∙ ap (λ b. if list_any (has_id pid_of p) gone then false else b) (was.pids p) ∙ ap (λ l. if list_any (has_id pid_of p) l then false else is_connected pid_of base before p) those
        ∙ sym (connected-ended pid_of (pids-differ (sockets base before) apart) p);
    rooms_are = rooms-step base limits step before sets sets' was.rooms_are change;
    saved_is = saved;
    log_is = logged;
    log_last = omega (arith, was.log_last, late);
    last = refl;
  }

  -- what stays sound, but for the saved sessions, the log and the balance
  pub ended-sound : IsSound base limits before
      → IsDistinct nat_eq (open_clients base (step ∷ before))
      → ((k : Socket) → is_open base before k.client ≡ true → not (ends step.what k) ≡ true → is_open base (step ∷ before) k.client ≡ true)
      → rooms_after base before (rooms base before) step.what ≡ without_sockets (rooms base before) (ended_by base before step.what)
      → AreConsistent (rooms_after base before (rooms base before) step.what)
      → AllByRecursion (IsAway (sockets base (step ∷ before))) (sessions base limits (step ∷ before))
      → BacklogIsSound base limits (step ∷ before)
      → IsConserved base limits (step ∷ before)
      → IsSound base limits (step ∷ before)
  unfolding rooms
  ended-sound was once opened left agree away backlog balance =
      let ks = sym sockets-ended in
      record {
        few_spaces = was.few_spaces;
        clients_once = once;
        sockets_apart = subst (EachTwo AreApart) ks (each-filter AreApart (λ k. not (ends step.what k)) (sockets base before) was.sockets_apart);
        of_open_clients = subst (AllByRecursion (λ (k : Socket). is_open base (step ∷ before) k.client ≡ true)) ks
            (all-passing (λ (k : Socket). is_open base before k.client ≡ true) (λ (k : Socket). is_open base (step ∷ before) k.client ≡ true) (λ k. not (ends step.what k)) opened (sockets base before) was.of_open_clients);
        in_spaces = subst (AllByRecursion (λ (k : Socket). is_space limits k.space ≡ true)) ks (all-filter (λ (k : Socket). is_space limits k.space ≡ true) (λ k. not (ends step.what k)) (sockets base before) was.in_spaces);
        seated = λ s. ap (λ v. is_socket v s) left ∙ is_socket-without_sockets (ended_by base before step.what) (rooms base before) s
            ∙ ap (λ b. if list_any (has_id sid_of s) (ended_by base before step.what) then false else b) (was.seated s) ∙ sym (connected-ended sid_of (sids-differ (sockets base before) was.sockets_apart) s);
        rooms_agree = agree;
        apart = away;
        sessions_differ = backlog.sessions_differ;
        few_rooms = backlog.few_rooms;
        offsets_rise = backlog.offsets_rise;
        log_rises = backlog.log_rises;
        log_late = backlog.log_late;
        conserved = balance;
      }

-- ---- one socket is ended

filter-none : {A : Type 0} (p : A → Bool) (xs : List A) → list_any p xs ≡ false → filter p xs ≡ []
filter-none p [] e = refl
filter-none p (x ∷ xs) e = let h = neither (p x) (list_any p xs) e in rw (h.0) (filter-none p xs h.1)

-- just one socket has the id of a socket
alone : (id : Socket → ℕ) (x : ℕ) (k : Socket) (ks : List Socket) → EachTwo (DifferBy id) ks → find (has_id id x) ks ≡ Some k → (filter (has_id id x) ks ≡ k ∷ []) × ((id k == x) ≡ true)
unfolding EachTwo
alone id x k [] apart e = cc
alone id x k (l ∷ ks) apart e = on (alone id x k ks apart.1) (id l == x) refl e
  where
    on : (find (has_id id x) ks ≡ Some k → (filter (has_id id x) ks ≡ k ∷ []) × ((id k == x) ≡ true))
        → (b : Bool) → (id l == x) ≡ b → (if b then Some l else find (has_id id x) ks) ≡ Some k
        → ((if b then l ∷ filter (has_id id x) ks else filter (has_id id x) ks) ≡ k ∷ []) × ((id k == x) ≡ true)
    on rest true is e =
        let same : l ≡ k = cc in
        (ap (λ ms. l ∷ ms) (filter-none (has_id id x) ks (no-other id x l ks apart.0 is)) ∙ ap (λ m. m ∷ []) same, ap (λ (m : Socket). id m == x) (sym same) ∙ is)
    on rest false is e = rest e

pub filter-swap : {A : Type 0} (p r : A → Bool) (xs : List A) → filter p (filter r xs) ≡ filter r (filter p xs)
filter-swap p r [] = refl
filter-swap p r (x ∷ xs) = on (p x) (r x) refl refl (filter-swap p r xs)
  where
    on : (a b : Bool) → p x ≡ a → r x ≡ b → filter p (filter r xs) ≡ filter r (filter p xs)
        → filter p (if b then x ∷ filter r xs else filter r xs) ≡ filter r (if a then x ∷ filter p xs else filter p xs)
    on true true e f rest = rw (e, f) (ap (λ l. x ∷ l) rest)
    on true false e f rest = rw f rest
    on false true e f rest = rw e rest
    on false false e f rest = rest

kept-whole : {A : Type 0} (p : A → Bool) (xs : List A) → filter p xs ≡ [] → filter (λ x. not (p x)) xs ≡ xs
kept-whole p [] e = refl
kept-whole p (x ∷ xs) e = on (kept-whole p xs) (p x) e
  where
    on : (filter p xs ≡ [] → filter (λ x. not (p x)) xs ≡ xs) → (b : Bool) → (if b then x ∷ filter p xs else filter p xs) ≡ [] → (if not b then x ∷ filter (λ x. not (p x)) xs else filter (λ x. not (p x)) xs) ≡ x ∷ xs
    on rest true e = cc
    on rest false e = ap (λ l. x ∷ l) (rest e)

-- of a client's sockets, that which has a session id is the one at its place
unequal : (x y : ℕ) → x ≢ y → (x == y) ≡ false
unequal x y differ = on (x == y) refl
  where
    on : (b : Bool) → (x == y) ≡ b → b ≡ false
    on true e = absurd (differ (eqb-true x y e))
    on false e = refl

known-found : (P : Socket → Type 0) (p : Socket → Bool) (k : Socket) (ks : List Socket) → AllByRecursion P ks → find p ks ≡ Some k → P k
known-found P p k [] h found = cc
known-found P p k (l ∷ ks) h found = on (known-found P p k ks h.1) (p l) found
  where
    on : (find p ks ≡ Some k → P k) → (b : Bool) → (if b then Some l else find p ks) ≡ Some k → P k
    on rest true e = let same : l ≡ k = cc in subst P same h.0
    on rest false e = rest e

abbrev IsAlone : ℕ → Socket → Socket → Type 0
IsAlone s k l = (l.client == k.client) ≡ true → (l.sid == s) ≡ (l.space == k.space)

alone-there : (s : ℕ) (k : Socket) (ks : List Socket) → EachTwo AreApart ks → find (has_id sid_of s) ks ≡ Some k → AllByRecursion (IsAlone s k) ks
unfolding EachTwo
alone-there s k [] apart found = tt
alone-there s k (l ∷ ks) apart found = on (l.sid == s) refl found (alone-there s k ks apart.1)
  where
    past : (ms : List Socket) → AllByRecursion (AreApart l) ms → l.sid ≡ s → l ≡ k → AllByRecursion (IsAlone s k) ms
    past [] h is same = tt
    past (m ∷ ms) h is same = (
      (λ of. unequal m.sid s (λ e. h.0.0 (is ∙ sym e)) ∙ sym (unequal m.space k.space (λ e. h.0.2 (ap (λ (j : Socket). j.client) same ∙ sym (eqb-true m.client k.client of)) (ap (λ (j : Socket). j.space) same ∙ sym e)))),
      past ms h.1 is same,
    )

    on : (b : Bool) → (l.sid == s) ≡ b → (if b then Some l else find (has_id sid_of s) ks) ≡ Some k
        → (find (has_id sid_of s) ks ≡ Some k → AllByRecursion (IsAlone s k) ks) → AllByRecursion (IsAlone s k) (l ∷ ks)
    on true is e rest =
        let same : l ≡ k = cc in
        ((λ of. is ∙ sym (eq-eqb l.space k.space (ap (λ (j : Socket). j.space) same))), past ks apart.0 (eqb-true l.sid s is) same)
    on false is e rest =
        let differs = known-found (AreApart l) (has_id sid_of s) k ks apart.0 e in
        ((λ of. is ∙ sym (unequal l.space k.space (differs.2 (eqb-true l.client k.client of)))), rest e)

same-left : (s q : ℕ) (k : Socket) (ks : List Socket) → k.client ≡ q → AllByRecursion (IsAlone s k) ks
    → filter (λ (l : Socket). not (l.sid == s)) (filter (λ (l : Socket). l.client == q) ks) ≡ filter (λ (l : Socket). not (l.space == k.space)) (filter (λ (l : Socket). l.client == q) ks)
same-left s q k [] of h = refl
same-left s q k (l ∷ ks) of h = on (l.client == q) refl (same-left s q k ks of h.1)
  where
    on : (b : Bool) → (l.client == q) ≡ b
        → filter (λ (l : Socket). not (l.sid == s)) (filter (λ (l : Socket). l.client == q) ks) ≡ filter (λ (l : Socket). not (l.space == k.space)) (filter (λ (l : Socket). l.client == q) ks)
        → filter (λ (l : Socket). not (l.sid == s)) (if b then l ∷ filter (λ (l : Socket). l.client == q) ks else filter (λ (l : Socket). l.client == q) ks)
        ≡ filter (λ (l : Socket). not (l.space == k.space)) (if b then l ∷ filter (λ (l : Socket). l.client == q) ks else filter (λ (l : Socket). l.client == q) ks)
    on true e rest =
        let others : List Socket = filter (λ (l : Socket). not (l.sid == s)) (filter (λ (l : Socket). l.client == q) ks) in
        ap (λ b. if not b then l ∷ others else others) (h.0 (ap (λ c. l.client == c) of ∙ e))
        ∙ ap (λ ls. if not (l.space == k.space) then l ∷ ls else ls) rest
    on false e rest = rest

module _ (base : PlainBase) (limits : Limits) where
  one-ended : (s : ℕ) (by : Side) (k : Socket) (before : List Step) → EachTwo AreApart (sockets base before) → socket_with sid_of base before s ≡ Some k → (ended_by base before (Ended s by) ≡ k ∷ []) × ((k.sid == s) ≡ true)
  unfolding socket_with
  one-ended s by k before apart found = alone sid_of s k (sockets base before) (sids-differ (sockets base before) apart) found

  of-ended : (s : ℕ) (by : Side) (at : ℕ) (before : List Step) (q : ℕ) → sockets_of base (record { at = at; what = Ended s by } ∷ before) q ≡ filter (λ (l : Socket). not (l.sid == s)) (sockets_of base before q)
  unfolding sockets_of
  of-ended s by at before q =
      ap (filter (λ (l : Socket). l.client == q)) (sockets-ended base limits (record { at = at; what = Ended s by }) before refl)
      ∙ filter-swap (λ (l : Socket). l.client == q) (λ (l : Socket). not (l.sid == s)) (sockets base before)

  of-another : (s : ℕ) (by : Side) (k : Socket) (before : List Step) (q : ℕ) → ended_by base before (Ended s by) ≡ k ∷ [] → (k.client == q) ≡ false → filter (λ (l : Socket). not (l.sid == s)) (sockets_of base before q) ≡ sockets_of base before q
  unfolding sockets_of
  of-another s by k before q one other =
      kept-whole (has_id sid_of s) (filter (λ (l : Socket). l.client == q) (sockets base before))
      (filter-swap (has_id sid_of s) (λ (l : Socket). l.client == q) (sockets base before) ∙ ap (filter (λ (l : Socket). l.client == q)) one ∙ rw other refl)

  of-one : (s : ℕ) (k : Socket) (before : List Step) (q : ℕ) → EachTwo AreApart (sockets base before) → socket_with sid_of base before s ≡ Some k → (k.client == q) ≡ true
      → filter (λ (l : Socket). not (l.sid == s)) (sockets_of base before q) ≡ filter (λ (l : Socket). not (l.space == k.space)) (sockets_of base before q)
  unfolding sockets_of socket_with
  of-one s k before q apart found e = same-left s q k (sockets base before) (eqb-true k.client q e) (alone-there s k (sockets base before) apart found)

  ended-at : (s : ℕ) (by : Side) (k : Socket) (at : ℕ) (before : List Step) → IsLegal base limits before → EachTwo AreApart (sockets base before) → socket_with sid_of base before s ≡ Some k → ended_by base before (Ended s by) ≡ k ∷ [] → (q : ℕ) (b : Bool) → (k.client == q) ≡ b
      → client_at base limits (record { at = at; what = Ended s by } ∷ before) q ≡ (if b then option_map (without_place k.space) (client_at base limits before q) else client_at base limits before q)
  unfolding put
  ended-at s by k at before legal apart found one q true e =
      let step : Step = record { at = at; what = Ended s by } in
      rw (is_open-quiet base step before refl (λ c. refl) q, of-ended s by at before q, of-one s k before q apart found e, waiting-quiet base limits step before legal q refl refl refl) (on (is_open base before q))
    where
      on : (o : Bool) → (if o then Some (record { sockets = filter (λ (l : Socket). not (l.space == k.space)) (sockets_of base before q); outbox = record { waiting = waiting base limits before q; capacity = limits.capacity; bytes = limits.bytes } }) else None)
          ≡ option_map (without_place k.space) (if o then Some (record { sockets = sockets_of base before q; outbox = record { waiting = waiting base limits before q; capacity = limits.capacity; bytes = limits.bytes } }) else None)
      on true = refl
      on false = refl
  ended-at s by k at before legal apart found one q false e =
      let step : Step = record { at = at; what = Ended s by } in
      rw (is_open-quiet base step before refl (λ c. refl) q, of-ended s by at before q, of-another s by k before q one e, waiting-quiet base limits step before legal q refl refl refl) refl

  one-room : (sets : RoomSets) (k : Socket) → without_sockets sets (k ∷ []) ≡ without_socket sets k.sid
  unfolding without_sockets
  one-room sets k = refl

  pub puts_ended : (before : List Step) (s : ℕ) (by : Side) → placed_by base limits before (Ended s by) ≡ 0
  unfolding put
  puts_ended before s by = refl

  pub ended : (s : ℕ) (by : Side) (k : Socket) (now newest : ℕ) (find find' : ℕ → Option PlainClient) (seat seat' : ℕ → Option Socket) (is_pid is_pid' : ℕ → Bool) (sets sets' : RoomSets) (table : TableContents) (packets : LogContents) (counts : Counts) (before : List Step)
      → IsHub base limits find seat is_pid sets table packets newest counts before
      → None ≡ or_spent (end_refusal base before s) (is_spent base limits before (Ended s by))
      → socket_with sid_of base before s ≡ Some k
      → ((q : ℕ) → find' q ≡ (if k.client == q then option_map (without_place k.space) (find q) else find q))
      → ((x : ℕ) → seat' x ≡ (if k.sid == x then None else seat x))
      → ((x : ℕ) → is_pid' x ≡ (if k.pid == x then false else is_pid x))
      → sets' ≡ without_socket sets k.sid → AreConsistent sets'
      → IsHub base limits find' seat' is_pid' sets' table packets (max now newest) (record { commands = counts.commands + 1; placed = counts.placed + 0; dropped = counts.dropped + 0; taken = counts.taken + 0; discarded = counts.discarded + 0 }) (record { at = max now newest; what = Ended s by } ∷ before)
  unfolding put
  ended s by k now newest find find' seat seat' is_pid is_pid' sets sets' table packets counts before was accepted found clients seats pids left consistent =
      let step : Step = record { at = max now newest; what = Ended s by } in
      let late : moment base before ≤ max now newest = rw (← was.0.last) (omega arith) in
      let later : newest ≤ max now newest = omega arith in
      let leaves : LeavesBacklog base limits step before = record { same_sessions = refl; no_call = refl; unused = refl } in
      let fine : IsAllowed base limits before step step.what = (sym accepted, tt) in
      let one = one-ended s by k before was.2.sockets_apart found in
      let same : k.sid ≡ s = eqb-true k.sid s one.1 in
      let change : sets' ≡ without_socket sets s = left ∙ ap (without_socket sets) same in
      let agree : AreConsistent (without_socket (rooms base before) s) = subst AreConsistent (change ∙ ap (λ v. without_socket v s) was.0.rooms_are) consistent in
      let flows = flow-quiet base limits step before was.1 fine was.2.clients_once refl (λ c. refl) (λ c. refl) tt (sum-zero (λ c. taken_by c (Ended s by)) (open_clients base before) (λ c e. refl)) in (
        ended-fields base limits step before refl find find' seat seat' is_pid is_pid' sets sets' table table packets newest was.0 was.2.sockets_apart
            (λ q. clients q ∙ ap (λ o. if k.client == q then option_map (without_place k.space) o else o) (was.0.clients q) ∙ sym (ended-at s by k (max now newest) before was.1 was.2.sockets_apart found one.0 q (k.client == q) refl))
            (k ∷ []) (sym one.0)
            (λ x. seats x ∙ ap (λ b. if b then None else seat x) (sym (or-none (k.sid == x))))
            (λ x. pids x ∙ ap (λ b. if b then false else is_pid x) (sym (or-none (k.pid == x))))
            change (table-quiet base limits step before table leaves was.0.saved_is) (packets-quiet base limits step before packets leaves was.0.log_is) later,
        legal-step base limits step before fine late was.1,
        ended-sound base limits step before refl was.2
            (subst (IsDistinct nat_eq) (sym (clients-quiet base step before refl (λ c. refl))) was.2.clients_once)
            (λ l known stays. is_open-quiet base step before refl (λ c. refl) l.client ∙ known)
            (ap (without_socket (rooms base before)) (sym same) ∙ sym (one-room (rooms base before) k) ∙ ap (without_sockets (rooms base before)) (sym one.0))
            agree
            (subst (AllByRecursion (IsAway (sockets base (step ∷ before)))) (sym (sessions-quiet base limits step before leaves)) (away-ended base limits step before refl (sessions base limits before) was.2.apart))
            (backlog-quiet base limits step before leaves late was.2)
            (conserved-step base limits step before was.2.conserved (omega (arith, flows))),
        counted base limits before counts was.3 was.2.conserved step 0 0 0 0 (puts_ended before s by) refl refl refl,
      )

  pub can_end : (before : List Step) (counts : Counts) → Counted base limits counts before → IsSound base limits before → (s : ℕ) (by : Side) → None ≡ or_spent (end_refusal base before s) (is_spent base limits before (Ended s by)) → CanCount counts 0 0 0 0
  can_end before counts was sound s by accepted =
      can base limits before counts was sound.conserved (Ended s by) 0 0 0 0 (puts_ended before s by) refl refl refl (unspent (end_refusal base before s) (is_spent base limits before (Ended s by)) accepted)

  -- the rooms know the socket that is ended
  pub one-known : (s : ℕ) (k : Socket) (before : List Step) (sets : RoomSets) → IsSound base limits before → sets ≡ rooms base before → socket_with sid_of base before s ≡ Some k → is_socket sets k.sid ≡ true
  one-known s k before sets was same found =
      let one = one-ended s Server k before was.sockets_apart found in
      ap (λ v. is_socket v k.sid) same ∙ ap (is_socket (rooms base before)) (eqb-true k.sid s one.1) ∙ was.seated s ∙ ap is_some found
