-- What parking a client makes of a hub: the sessions of its sockets are saved.
use Rattle.std.proofs.Common.{zero, suc, ◌≡◌, ◌≢◌, ℕ, ◌+◌, ◌<◌, ◌≤◌, ◌==◌, Bool, true, false, ◌&&◌, ◌||◌, not, List, [], ◌∷◌, ◌++◌, length, filter, map, take, max, refl, sym, ◌∙◌, ap, subst, arith, if◌then◌else◌, Option, None, Some, nat_lt, add-one}
use Rattle.std.specs.Prelude.{is_some, slice_index_or, T}
use Rattle.std.specs.List.{list_any, find, AllByRecursion}
use Rattle.std.specs.List.Sorted.{IsStrictlySortedBy}
use Rattle.std.specs.declared.cmp.Ordering.TheVariants.{Less}
use Rattle.std.specs.Ordering.{eq_by_cmp, is_lt}
use Rattle.std.specs.Cmp.Lexicographic.{nat_list_cmp_total}
use Rattle.std.specs.FinSet as set
use Rattle.std.specs.FinMap as finite
use Rattle.std.specs.FinMap.Entries.{is_sorted, below_all}
use Rattle.std.specs.FinMap.Entries as entries
use Rattle.std.proofs.lemmas.Bool.{eqb-true, eq-eqb}
use Rattle.terms.specs.Listing.{ListsRising}
use Rattle.terms.specs.Room.{room_cmp}
use Rattle.room_maps.specs.Membership.{RoomSets, AreConsistent, is_socket, is_in, rooms_in, are_too_many}
use Rattle.room_maps.proofs.MembershipLemmas.{contains-rooms_in, few_listed}
use Rattle.recovery.specs.PacketLog.{LogContents, IsRun, Rises, latest}
use Rattle.recovery.specs.SavedTable.{PlainSaved, TableContents, with_session, saved, removed}
use Rattle.journal.specs.declared.socket.Socket.{Socket}
use Rattle.journal.specs.declared.step.Step.{Step}
use Rattle.journal.specs.declared.step.What.TheVariants.{Parked}
use Rattle.journal.specs.declared.totals.Counts.{Counts}
use Rattle.journal.specs.declared.error.HubError.TheVariants.{UnknownClient}
use Rattle.journal.specs.Plain.{PlainBase, Limits, PlainClient}
use Rattle.journal.specs.Journal.{moment}
use Rattle.journal.specs.Membership.{is_open, sockets, sid_of, pid_of, has_id, sockets_of, rooms, without_sockets}
use Rattle.journal.specs.Sessions.{rooms_rising, with_sessions, sessions}
use Rattle.journal.specs.Log.{log, log_calls, next, next_number}
use Rattle.journal.specs.Outboxes.{put}
use Rattle.journal.specs.Totals.{placed_by, is_spent}
use Rattle.journal.specs.Refusals.{or_spent, park_refusal}
use Rattle.journal.specs.Legal.{IsSound, IsAway, EachTwo, AreApart, DifferInIds}
use Rattle.journal.specs.Fields.{Counted, CanCount, client_at, held_sockets, held_entries}
use Rattle.journal.specs.Parking.{lost_in, is_of, HasNoneOf, with_lost, without_lost}
use Rattle.journal.proofs.SessionsLemmas.{BacklogIsSound, number-quiet, next-quiet, is_some-find}
use Rattle.journal.proofs.HubLemmas.{legal-step}
use Rattle.journal.proofs.CountsLemmas.{counted, can, unrefused, unspent}
use Rattle.journal.proofs.CommandLemmas.{IsHub}
use Rattle.journal.proofs.EndLemmas.{DifferBy, all-filter, each-filter, none-filter, find-out, sids-differ, pids-differ, all-known, sockets-ended}
use Rattle.journal.proofs.CloseLemmas.{Loses, lost-fields, lost-sound, held, its-known, its-apart}

-- ---- the rooms of a socket as a list

abbrev marked : List (List ℕ) → List (List ℕ × Unit {0})
marked xs = map (λ x. (x, tt {0})) xs

names : (xs : List (List ℕ)) → map (λ (e : List ℕ × Unit {0}). e.0) (marked xs) ≡ xs
names [] = refl
names (x ∷ xs) = ap (λ l. x ∷ l) (names xs)

below : (x : List ℕ) (ys : List (List ℕ)) → AllByRecursion (λ y. room_cmp x y ≡ Less) ys → below_all room_cmp x (marked ys) ≡ true
below x [] h = refl
below x (y ∷ ys) h = ap (λ o. is_lt o && below_all room_cmp x (marked ys)) h.0 ∙ below x ys h.1

rises : (xs : List (List ℕ)) → IsStrictlySortedBy room_cmp xs → is_sorted room_cmp (marked xs) ≡ true
unfolding IsStrictlySortedBy
rises [] h = refl
rises (x ∷ xs) h = ap (λ b. b && is_sorted room_cmp (marked xs)) (below x xs h.0) ∙ rises xs h.1

same-mark : (a b : Option (Unit {0})) → is_some a ≡ is_some b → a ≡ b
same-mark None None e = refl
same-mark None (Some u) e = cc
same-mark (Some u) None e = cc
same-mark (Some u) (Some v) e = refl

-- the list of a socket's rooms has just these
members : (sets : RoomSets) (s : ℕ) (w : List ℕ) → list_any (eq_by_cmp room_cmp w) (rooms_rising sets s) ≡ is_in sets s w
members sets s w =
    sym (finite.contains_key-keys (finite.from_entries {R = room_cmp} (marked (set.items (rooms_in sets s)))) w)
    ∙ ap is_some (finite.get-from_entries nat_list_cmp_total (marked (set.items (rooms_in sets s))) w)
    ∙ entries.is_some-find room_cmp w (marked (set.items (rooms_in sets s)))
    ∙ ap (list_any (eq_by_cmp room_cmp w)) (names (set.items (rooms_in sets s)))
    ∙ sym (set.contains-items (rooms_in sets s) w)
    ∙ contains-rooms_in sets s w

-- a rising list of just the rooms that the socket is in is the list of them
pub rooms-listed : (sets : RoomSets) (s : ℕ) (xs : List (List ℕ)) → ListsRising room_cmp (is_in sets s) xs → xs ≡ rooms_rising sets s
rooms-listed sets s xs lists =
    let made : finite.FinMap room_cmp (Unit {0}) = finite.from_sorted (marked xs) in
    let all : finite.FinMap room_cmp (Unit {0}) = finite.from_entries (marked (set.items (rooms_in sets s))) in
    let listed : finite.keys made ≡ xs = ap (map (λ (e : List ℕ × Unit {0}). e.0)) (finite.entries-from_sorted room_cmp (marked xs) (subst T (sym (rises xs lists.rises)) tt)) ∙ names xs in
    let same : made ≡ all
    = finite.same_map nat_list_cmp_total (finite.slice_cmp-IsAntisymmetric finite.nat_cmp-IsAntisymmetric) made all
    (λ w. same-mark (finite.get made w) (finite.get all w)
    (finite.contains_key-keys made w ∙ ap (list_any (eq_by_cmp room_cmp w)) listed ∙ lists.exactly w ∙ sym (members sets s w) ∙ sym (finite.contains_key-keys all w))) in
    sym listed ∙ ap finite.keys same

-- a known socket has at most 256 rooms
few-rooms : (sets : RoomSets) (s : ℕ) → AreConsistent sets → is_socket sets s ≡ true → are_too_many s (rooms_rising sets s) ≡ false
few-rooms sets s agree known = few_listed sets s (rooms_rising sets s) agree known (members sets s)

-- ---- saving and taking back

-- what is true of the sessions in the table and of the new ones is true after the save
all-with : (P : PlainSaved → Type 0) (s : PlainSaved) (ss : List PlainSaved) → P s → AllByRecursion P ss → AllByRecursion P (with_session s ss)
all-with P s [] here h = (here, tt)
all-with P s (t ∷ ss) here h = elim (nat_lt s.pid t.pid) as (λ b. AllByRecursion P (if b then s ∷ t ∷ ss else t ∷ with_session s ss)) [
  | true ↦ (here, h)
  | false ↦ (h.0, all-with P s ss here h.1)
]

all-saved : (P : PlainSaved → Type 0) (ns ss : List PlainSaved) → AllByRecursion P ns → AllByRecursion P ss → AllByRecursion P (with_sessions ns ss)
all-saved P [] ss new h = h
all-saved P (n ∷ ns) ss new h = all-saved P ns (with_session n ss) new.1 (all-with P n ss new.0 h)

turned : (s t : PlainSaved) → DifferInIds s t → DifferInIds t s
turned s t d = (λ e. d.0 (sym e), λ e. d.1 (sym e))

all-turned : (s : PlainSaved) (ss : List PlainSaved) → AllByRecursion (DifferInIds s) ss → AllByRecursion (λ t. DifferInIds t s) ss
all-turned s [] h = tt
all-turned s (t ∷ ss) h = (turned s t h.0, all-turned s ss h.1)

differ-with : (s : PlainSaved) (ss : List PlainSaved) → AllByRecursion (DifferInIds s) ss → EachTwo DifferInIds ss → EachTwo DifferInIds (with_session s ss)
unfolding EachTwo
differ-with s [] apart h = (tt, tt)
differ-with s (t ∷ ss) apart h = elim (nat_lt s.pid t.pid) as (λ b. EachTwo DifferInIds (if b then s ∷ t ∷ ss else t ∷ with_session s ss)) [
  | true ↦ (apart, h)
  | false ↦ (all-with (DifferInIds t) s ss (turned s t apart.0) h.0, differ-with s ss apart.1 h.1)
]

-- each new session still differs from all that are saved
still-differ : (n : PlainSaved) (ns ss : List PlainSaved) → AllByRecursion (DifferInIds n) ns → AllByRecursion (λ m. AllByRecursion (DifferInIds m) ss) ns → AllByRecursion (λ m. AllByRecursion (DifferInIds m) (with_session n ss)) ns
still-differ n [] ss apart h = tt
still-differ n (m ∷ ns) ss apart h = (all-with (DifferInIds m) n ss (turned n m apart.0) h.0, still-differ n ns ss apart.1 h.1)

differ-saved : (ns ss : List PlainSaved) → EachTwo DifferInIds ns → AllByRecursion (λ n. AllByRecursion (DifferInIds n) ss) ns → EachTwo DifferInIds ss → EachTwo DifferInIds (with_sessions ns ss)
unfolding EachTwo
differ-saved [] ss apart others h = h
differ-saved (n ∷ ns) ss apart others h = differ-saved ns (with_session n ss) apart.1 (still-differ n ns ss apart.0 others.1) (differ-with n ss others.0 h)

-- a session that a filter drops may as well not have been saved
dropped-with : (keeps : PlainSaved → Bool) (s : PlainSaved) (ss : List PlainSaved) → keeps s ≡ false → filter keeps (with_session s ss) ≡ filter keeps ss
dropped-with keeps s [] e = rw e refl
dropped-with keeps s (t ∷ ss) e = elim (nat_lt s.pid t.pid) as (λ b. filter keeps (if b then s ∷ t ∷ ss else t ∷ with_session s ss) ≡ filter keeps (t ∷ ss)) [
  | true ↦ ap (λ b. if b then s ∷ filter keeps (t ∷ ss) else filter keeps (t ∷ ss)) e
  | false ↦ ap (λ l. if keeps t then t ∷ l else l) (dropped-with keeps s ss e)
]

dropped-saved : (keeps : PlainSaved → Bool) (ns ss : List PlainSaved) → AllByRecursion (λ n. keeps n ≡ false) ns → filter keeps (with_sessions ns ss) ≡ filter keeps ss
dropped-saved keeps [] ss h = refl
dropped-saved keeps (n ∷ ns) ss h = dropped-saved keeps ns (with_session n ss) h.1 ∙ dropped-with keeps n ss h.0

kept-all : (keeps : PlainSaved → Bool) (ss : List PlainSaved) → AllByRecursion (λ s. keeps s ≡ true) ss → filter keeps ss ≡ ss
kept-all keeps [] h = refl
kept-all keeps (s ∷ ss) h = rw (h.0) (ap (λ l. s ∷ l) (kept-all keeps ss h.1))

abbrev others : List Socket → PlainSaved → Bool
others ks s = not (is_of ks s)

-- each socket's session is of one of the sockets
own-of : (sets : RoomSets) (at : ℕ) (ks ls : List Socket) → AllByRecursion (λ (k : Socket). list_any (has_id pid_of k.pid) ls ≡ true) ks → AllByRecursion (λ n. others ls n ≡ false) (map (lost_in sets at) ks)
own-of sets at [] ls h = tt
own-of sets at (k ∷ ks) ls h = (ap not h.0, own-of sets at ks ls h.1)

either-true : (b : Bool) → (b || true) ≡ true
either-true true = refl
either-true false = refl

all-later : (P Q : Socket → Type 0) → ((k : Socket) → P k → Q k) → (ks : List Socket) → AllByRecursion P ks → AllByRecursion Q ks
all-later P Q to [] h = tt
all-later P Q to (k ∷ ks) h = (to k h.0, all-later P Q to ks h.1)

-- each socket of a list is found in it by its id
found-in : (id : Socket → ℕ) (ks : List Socket) → AllByRecursion (λ (k : Socket). list_any (has_id id (id k)) ks ≡ true) ks
found-in id [] = tt
found-in id (k ∷ ks) = (
  ap (λ b. b || list_any (has_id id (id k)) ks) (eq-eqb (id k) (id k) refl),
  all-later (λ (l : Socket). list_any (has_id id (id l)) ks ≡ true) (λ (l : Socket). list_any (has_id id (id l)) (k ∷ ks) ≡ true) (λ l h. rw h (either-true (id k == id l))) ks (found-in id ks),
)

not-kept : (ks : List Socket) (ss : List PlainSaved) → AllByRecursion (λ s. is_of ks s ≡ false) ss → AllByRecursion (λ s. others ks s ≡ true) ss
not-kept ks [] h = tt
not-kept ks (s ∷ ss) h = (ap not h.0, not-kept ks ss h.1)

all-first : (P : Socket → Type 0) (i : ℕ) (ks : List Socket) → AllByRecursion P ks → AllByRecursion P (take i ks)
all-first P zero ks h = tt
all-first P (suc i) [] h = tt
all-first P (suc i) (k ∷ ks) h = (h.0, all-first P i ks h.1)

-- sessions of the first sockets that were saved leave the table as it was, where those of all are taken out
taken-back : (sets : RoomSets) (at i : ℕ) (ks : List Socket) (table : TableContents) → HasNoneOf ks table → without_lost ks (with_lost sets at (take i ks) table) ≡ table
taken-back sets at i ks table none =
    ap (λ ss. record { limit = table.limit; sessions = ss })
    (dropped-saved (others ks) (map (lost_in sets at) (take i ks)) table.sessions
    (own-of sets at (take i ks) ks (all-first (λ (k : Socket). list_any (has_id pid_of k.pid) ks ≡ true) i ks (found-in pid_of ks)))
    ∙ kept-all (others ks) table.sessions (not-kept ks table.sessions none))

pub taken-back-first : (sets : RoomSets) (at i : ℕ) (ks : List Socket) (table mid new : TableContents) → HasNoneOf ks table → mid ≡ with_lost sets at (take i ks) table → new ≡ without_lost ks mid → new ≡ table
taken-back-first sets at i ks table mid new none saved back = back ∙ ap (without_lost ks) saved ∙ taken-back sets at i ks table none

-- ---- the loops over the client's sockets

more-taken : (d k : Socket) (i : ℕ) (ks : List Socket) → i < length ks → k ≡ slice_index_or ks i d → take (suc i) ks ≡ take i ks ++ k ∷ []
more-taken d k i [] lt is = absurd (omega arith)
more-taken d k zero (l ∷ ks) lt is = ap (λ m. m ∷ []) (sym is)
more-taken d k (suc i) (l ∷ ks) lt is = ap (λ m. l ∷ m) (more-taken d k i ks (omega arith) is)

pub next-taken : (k : Socket) (i : ℕ) (ks : List Socket) → i < length ks → k ≡ slice_index_or ks i k → take (i + 1) ks ≡ take i ks ++ k ∷ []
next-taken k i ks lt is = ap (λ n. take n ks) (add-one i) ∙ more-taken k k i ks lt is

sessions-push : (f : Socket → PlainSaved) (ks : List Socket) (k : Socket) (ss : List PlainSaved) → with_sessions (map f (ks ++ k ∷ [])) ss ≡ with_session (f k) (with_sessions (map f ks) ss)
sessions-push f [] k ss = refl
sessions-push f (l ∷ ks) k ss = sessions-push f ks k (with_session (f l) ss)

-- one more socket's session is saved
pub one-saved : (sets : RoomSets) (at : ℕ) (k : Socket) (i : ℕ) (ks : List Socket) (table mid new : TableContents) → i < length ks → k ≡ slice_index_or ks i k
    → mid ≡ with_lost sets at (take i ks) table → new ≡ saved mid (lost_in sets at k) → new ≡ with_lost sets at (take (i + 1) ks) table
one-saved sets at k i ks table mid new lt is was put =
    put ∙ ap (λ m. saved m (lost_in sets at k)) was
    ∙ ap (λ ss. record { limit = table.limit; sessions = ss }) (sym (sessions-push (lost_in sets at) (take i ks) k table.sessions))
    ∙ ap (λ l. with_lost sets at l table) (sym (next-taken k i ks lt is))

filter-both : (p q r : PlainSaved → Bool) → ((s : PlainSaved) → r s ≡ (q s && p s)) → (ss : List PlainSaved) → filter p (filter q ss) ≡ filter r ss
filter-both p q r is [] = refl
filter-both p q r is (s ∷ ss) = on (q s) (is s) (filter-both p q r is ss)
  where
    on : (b : Bool) → r s ≡ (b && p s) → filter p (filter q ss) ≡ filter r ss → filter p (if b then s ∷ filter q ss else filter q ss) ≡ (if r s then s ∷ filter r ss else filter r ss)
    on true e rest = ap (λ l. if p s then s ∷ l else l) rest ∙ ap (λ b. if b then s ∷ filter r ss else filter r ss) (sym e)
    on false e rest = rest ∙ ap (λ b. if b then s ∷ filter r ss else filter r ss) (sym e)

others-push : (ks : List Socket) (k : Socket) (s : PlainSaved) → others (ks ++ k ∷ []) s ≡ (others ks s && not (s.pid == k.pid))
others-push [] k s = on (k.pid == s.pid) (s.pid == k.pid) refl refl
  where
    on : (a b : Bool) → (k.pid == s.pid) ≡ a → (s.pid == k.pid) ≡ b → not (a || false) ≡ not b
    on true true e f = refl
    on false false e f = refl
    on true false e f = let t : (s.pid == k.pid) ≡ true = eq-eqb s.pid k.pid (sym (eqb-true k.pid s.pid e)) in cc
    on false true e f = let t : (k.pid == s.pid) ≡ true = eq-eqb k.pid s.pid (sym (eqb-true s.pid k.pid f)) in cc
others-push (l ∷ ks) k s = on (l.pid == s.pid) (others-push ks k s)
  where
    on : (b : Bool) → others (ks ++ k ∷ []) s ≡ (others ks s && not (s.pid == k.pid)) → not (b || is_of (ks ++ k ∷ []) s) ≡ (not (b || is_of ks s) && not (s.pid == k.pid))
    on true rest = refl
    on false rest = rest

-- one more socket's session is taken out
pub one-back : (k : Socket) (i : ℕ) (ks : List Socket) (table mid new : TableContents) → i < length ks → k ≡ slice_index_or ks i k
    → mid ≡ without_lost (take i ks) table → new ≡ removed mid k.pid → new ≡ without_lost (take (i + 1) ks) table
one-back k i ks table mid new lt is was out =
    out ∙ ap (λ m. removed m k.pid) was
    ∙ ap (λ ss. record { limit = table.limit; sessions = ss }) (filter-both (λ (s : PlainSaved). not (s.pid == k.pid)) (others (take i ks)) (others (take i ks ++ k ∷ [])) (others-push (take i ks) k) table.sessions)
    ∙ ap (λ l. without_lost l table) (sym (next-taken k i ks lt is))

pub none-back : (table : TableContents) → table ≡ without_lost [] table
none-back table = ap (λ ss. record { limit = table.limit; sessions = ss }) (sym (kept-all (others []) table.sessions (all-true table.sessions)))
  where
    all-true : (ss : List PlainSaved) → AllByRecursion (λ s. others [] s ≡ true) ss
    all-true [] = tt
    all-true (s ∷ ss) = (refl, all-true ss)

-- ---- the ids of those who go and those who stay

-- no socket that stays has an id of one that goes
apart-new : (id : Socket → ℕ) (out : Socket → Bool) (ks : List Socket) → EachTwo (DifferBy id) ks → AllByRecursion (λ (k : Socket). list_any (has_id id (id k)) (filter (λ k. not (out k)) ks) ≡ false) (filter out ks)
apart-new id out ks apart =
    all-later (λ (k : Socket). list_any (has_id id (id k)) (filter out ks) ≡ true) (λ (k : Socket). list_any (has_id id (id k)) (filter (λ k. not (out k)) ks) ≡ false)
    (λ k h. sym (is_some-find (has_id id (id k)) (filter (λ k. not (out k)) ks)) ∙ ap is_some (find-out id out (id k) ks apart) ∙ ap (λ b. is_some (if b then None else find (has_id id (id k)) ks)) h)
    (filter out ks) (found-in id (filter out ks))

away-lost : (sets : RoomSets) (at : ℕ) (ks ls : List Socket) → AllByRecursion (λ (k : Socket). list_any (has_id sid_of k.sid) ls ≡ false) ks → AllByRecursion (λ (k : Socket). list_any (has_id pid_of k.pid) ls ≡ false) ks
    → AllByRecursion (IsAway ls) (map (lost_in sets at) ks)
away-lost sets at [] ls s p = tt
away-lost sets at (k ∷ ks) ls s p = ((s.0, p.0), away-lost sets at ks ls s.1 p.1)

all-lost : (sets : RoomSets) (at : ℕ) (k : Socket) (ks : List Socket) → AllByRecursion (AreApart k) ks → AllByRecursion (DifferInIds (lost_in sets at k)) (map (lost_in sets at) ks)
all-lost sets at k [] h = tt
all-lost sets at k (l ∷ ks) h = ((h.0.0, h.0.1), all-lost sets at k ks h.1)

differ-lost : (sets : RoomSets) (at : ℕ) (ks : List Socket) → EachTwo AreApart ks → EachTwo DifferInIds (map (lost_in sets at) ks)
unfolding EachTwo
differ-lost sets at [] h = h
differ-lost sets at (k ∷ ks) h = (all-lost sets at k ks h.0, differ-lost sets at ks h.1)

neither : (a b : Bool) → (a || b) ≡ false → (a ≡ false) × (b ≡ false)
neither true b e = cc
neither false b e = (refl, e)

differs : (a b : ℕ) → (a == b) ≡ false → a ≢ b
differs a b e same = let t : (a == b) ≡ true = eq-eqb a b same in cc

first-away : (sets : RoomSets) (at : ℕ) (k : Socket) (ks : List Socket) (ss : List PlainSaved) → AllByRecursion (IsAway (k ∷ ks)) ss → AllByRecursion (DifferInIds (lost_in sets at k)) ss
first-away sets at k ks [] h = tt
first-away sets at k ks (s ∷ ss) h = (
  (differs k.sid s.sid (neither (k.sid == s.sid) (list_any (λ (l : Socket). l.sid == s.sid) ks) h.0.0).0, differs k.pid s.pid (neither (k.pid == s.pid) (list_any (λ (l : Socket). l.pid == s.pid) ks) h.0.1).0),
  first-away sets at k ks ss h.1,
)

rest-away : (k : Socket) (ks : List Socket) (ss : List PlainSaved) → AllByRecursion (IsAway (k ∷ ks)) ss → AllByRecursion (IsAway ks) ss
rest-away k ks [] h = tt
rest-away k ks (s ∷ ss) h = (
  ((neither (k.sid == s.sid) (list_any (λ (l : Socket). l.sid == s.sid) ks) h.0.0).1, (neither (k.pid == s.pid) (list_any (λ (l : Socket). l.pid == s.pid) ks) h.0.1).1),
  rest-away k ks ss h.1,
)

differ-old : (sets : RoomSets) (at : ℕ) (ks : List Socket) (ss : List PlainSaved) → AllByRecursion (IsAway ks) ss → AllByRecursion (λ n. AllByRecursion (DifferInIds n) ss) (map (lost_in sets at) ks)
differ-old sets at [] ss h = tt
differ-old sets at (k ∷ ks) ss h = (first-away sets at k ks ss h, differ-old sets at ks ss (rest-away k ks ss h))

away-some : (test : Socket → Bool) (ks : List Socket) (ss : List PlainSaved) → AllByRecursion (IsAway ks) ss → AllByRecursion (IsAway (filter test ks)) ss
away-some test ks [] h = tt
away-some test ks (s ∷ ss) h = ((none-filter (λ (k : Socket). k.sid == s.sid) test ks h.0.0, none-filter (λ (k : Socket). k.pid == s.pid) test ks h.0.1), away-some test ks ss h.1)

none-away : (ks : List Socket) (ss : List PlainSaved) → AllByRecursion (IsAway ks) ss → AllByRecursion (λ s. is_of ks s ≡ false) ss
none-away ks [] h = tt
none-away ks (s ∷ ss) h = (h.0.1, none-away ks ss h.1)

few-lost : (sets : RoomSets) (at : ℕ) (ks : List Socket) → AreConsistent sets → AllByRecursion (λ (k : Socket). is_socket sets k.sid ≡ true) ks → AllByRecursion (λ (s : PlainSaved). are_too_many s.sid s.rooms ≡ false) (map (lost_in sets at) ks)
few-lost sets at [] agree known = tt
few-lost sets at (k ∷ ks) agree known = (few-rooms sets k.sid agree known.0, few-lost sets at ks agree known.1)

-- ---- a client is parked

abbrev pub park : ℕ → ℕ → Step
park at c = record { at = at; what = Parked c }

module _ (base : PlainBase) (limits : Limits) (at c : ℕ) (before : List Step) where
  loses-parked : Loses base limits (park at c) before c
  unfolding put
  loses-parked = record {
    opens_none = refl;
    closes_it = λ q. refl;
    connects_none = refl;
    ends_its = λ k. refl;
    begins_none = λ q. refl;
    takes_none = λ q. refl;
    puts_none = refl;
    hands_none = refl;
    discards = refl;
    leaves_rooms = λ sets. refl;
  }

  sessions-parked : sessions base limits (park at c ∷ before) ≡ with_sessions (map (lost_in (rooms base before) at) (sockets_of base before c)) (sessions base limits before)
  unfolding sessions
  sessions-parked = refl

  calls-parked : log_calls base limits (park at c ∷ before) ≡ log_calls base limits before
  unfolding log_calls
  calls-parked = refl

  log-parked : log base limits (park at c ∷ before) ≡ log base limits before
  unfolding log log_calls
  log-parked = refl

  -- the sessions of the client's sockets are away: just these have their ids
  away-parked : IsSound base limits before → AllByRecursion (IsAway (sockets base (park at c ∷ before))) (sessions base limits (park at c ∷ before))
  unfolding sockets_of
  away-parked was =
      let gone : List Socket = filter (λ (k : Socket). k.client == c) (sockets base before) in
      let stay : List Socket = filter (λ (k : Socket). not (k.client == c)) (sockets base before) in
      let new : AllByRecursion (IsAway stay) (map (lost_in (rooms base before) at) gone)
      = away-lost (rooms base before) at gone stay
      (apart-new sid_of (λ (k : Socket). k.client == c) (sockets base before) (sids-differ (sockets base before) was.sockets_apart))
      (apart-new pid_of (λ (k : Socket). k.client == c) (sockets base before) (pids-differ (sockets base before) was.sockets_apart)) in
      let old : AllByRecursion (IsAway stay) (sessions base limits before) = away-some (λ (k : Socket). not (k.client == c)) (sockets base before) (sessions base limits before) was.apart in
      subst (AllByRecursion (IsAway (sockets base (park at c ∷ before)))) (sym sessions-parked)
      (subst (λ ks. AllByRecursion (IsAway ks) (with_sessions (map (lost_in (rooms base before) at) gone) (sessions base limits before))) (sym (sockets-ended base limits (park at c) before refl))
      (all-saved (IsAway stay) (map (lost_in (rooms base before) at) gone) (sessions base limits before) new old))

  backlog-parked : IsSound base limits before → moment base before ≤ at → BacklogIsSound base limits (park at c ∷ before)
  unfolding moment sockets_of
  backlog-parked was late =
      let gone : List Socket = filter (λ (k : Socket). k.client == c) (sockets base before) in
      let new : List PlainSaved = map (lost_in (rooms base before) at) gone in
      let old : List PlainSaved = sessions base limits before in
      let was_late : latest (log_calls base limits before) ≤ at = omega (arith, was.log_late, late) in
      record {
        sessions_differ = subst (EachTwo DifferInIds) (sym sessions-parked)
            (differ-saved new old
            (differ-lost (rooms base before) at gone (each-filter AreApart (λ (k : Socket). k.client == c) (sockets base before) was.sockets_apart))
            (differ-old (rooms base before) at gone old (away-some (λ (k : Socket). k.client == c) (sockets base before) old was.apart))
            was.sessions_differ);
        few_rooms = subst (AllByRecursion (λ (s : PlainSaved). are_too_many s.sid s.rooms ≡ false)) (sym sessions-parked)
            (all-saved (λ (s : PlainSaved). are_too_many s.sid s.rooms ≡ false) new old
            (few-lost (rooms base before) at gone was.rooms_agree (all-filter (λ (k : Socket). is_socket (rooms base before) k.sid ≡ true) (λ (k : Socket). k.client == c) (sockets base before) (all-known base limits before (rooms base before) was refl)))
            was.few_rooms);
        offsets_rise = subst (λ n. IsRun n (log base limits (park at c ∷ before))) (sym (number-quiet base limits (park at c) before refl)) (subst (IsRun (next_number base before)) (sym log-parked) was.offsets_rise);
        log_rises = subst Rises (sym calls-parked) was.log_rises;
        log_late = subst (λ calls. latest calls ≤ at) (sym calls-parked) was_late;
      }

  table-parked : (sets : RoomSets) (table table' : TableContents) (gone : List Socket) → table ≡ record { limit = limits.saved; sessions = sessions base limits before } → sets ≡ rooms base before → gone ≡ sockets_of base before c
      → table' ≡ with_lost sets at gone table → table' ≡ record { limit = limits.saved; sessions = sessions base limits (park at c ∷ before) }
  table-parked sets table table' gone was same those put =
      put ∙ (λ i. with_lost (same i) at (those i) (was i)) ∙ ap (λ ss. record { limit = limits.saved; sessions = ss }) (sym sessions-parked)

  packets-parked : (packets : LogContents) → packets ≡ record { limit = limits.log; bytes = limits.log_bytes; next = next base before; last = packets.last; entries = log base limits before }
      → packets ≡ record { limit = limits.log; bytes = limits.log_bytes; next = next base (park at c ∷ before); last = packets.last; entries = log base limits (park at c ∷ before) }
  packets-parked packets was = was ∙ sym (λ i. record { limit = limits.log; bytes = limits.log_bytes; next = next-quiet base limits (park at c) before refl i; last = packets.last; entries = log-parked i })

module _ (base : PlainBase) (limits : Limits) where
  pub puts_parked : (before : List Step) (c : ℕ) → placed_by base limits before (Parked c) ≡ 0
  unfolding put
  puts_parked before c = refl

  park_open : (c : ℕ) (before : List Step) → park_refusal base limits before c ≡ None → is_open base before c ≡ true
  park_open c before e = on (is_open base before c) refl
    where
      on : (b : Bool) → is_open base before c ≡ b → b ≡ true
      on true k = refl
      on false k = let r : park_refusal base limits before c ≡ Some UnknownClient = rw k refl in cc

  pub parked : (c discards now newest : ℕ) (find find' : ℕ → Option PlainClient) (seat seat' : ℕ → Option Socket) (is_pid is_pid' : ℕ → Bool) (sets sets' : RoomSets) (table table' : TableContents) (packets : LogContents) (counts : Counts) (before : List Step)
      → IsHub base limits find seat is_pid sets table packets newest counts before
      → None ≡ or_spent (park_refusal base limits before c) (is_spent base limits before (Parked c))
      → discards ≡ length (held_entries (find c))
      → ((q : ℕ) → find' q ≡ (if c == q then None else find q))
      → ((s : ℕ) → seat' s ≡ (if list_any (has_id sid_of s) (held_sockets (find c)) then None else seat s))
      → ((p : ℕ) → is_pid' p ≡ (if list_any (has_id pid_of p) (held_sockets (find c)) then false else is_pid p))
      → sets' ≡ without_sockets sets (held_sockets (find c)) → AreConsistent sets'
      → (moved : ℕ) → moved ≡ max now newest → table' ≡ with_lost sets moved (held_sockets (find c)) table
      → IsHub base limits find' seat' is_pid' sets' table' packets (max now newest) (record { commands = counts.commands + 1; placed = counts.placed + 0; dropped = counts.dropped + 0; taken = counts.taken + 0; discarded = counts.discarded + discards }) (park (max now newest) c ∷ before)
  parked c discards now newest find find' seat seat' is_pid is_pid' sets sets' table table' packets counts before was accepted waits clients seats pids left consistent moved is saves =
      let at : ℕ = max now newest in
      let late : moment base before ≤ max now newest = rw (← was.0.last) (omega arith) in
      let later : newest ≤ max now newest = omega arith in
      let loses = loses-parked base limits at c before in
      let allowed = unrefused (park_refusal base limits before c) (is_spent base limits before (Parked c)) accepted in
      let known = park_open c before allowed in
      let its = held base limits find before c was.0.clients known in
      let agree : AreConsistent (without_sockets (rooms base before) (sockets_of base before c)) = subst AreConsistent (left ∙ ap (without_sockets sets) its.0 ∙ ap (λ v. without_sockets v (sockets_of base before c)) was.0.rooms_are) consistent in (
        lost-fields base limits (park at c) before c loses find find' seat seat' is_pid is_pid' sets sets' table table' packets newest was.0 was.1 was.2.sockets_apart clients (held_sockets (find c)) its.0 seats pids left
            (table-parked base limits at c before sets table table' (held_sockets (find c)) was.0.saved_is was.0.rooms_are its.0 (saves ∙ ap (λ t. with_lost sets t (held_sockets (find c)) table) is)) (packets-parked base limits at c before packets was.0.log_is) later,
        legal-step base limits (park at c) before (sym accepted, tt) late was.1,
        lost-sound base limits (park at c) before c loses was.1 was.2 known agree
            (away-parked base limits at c before was.2)
            (backlog-parked base limits at c before was.2 late),
        counted base limits before counts was.3 was.2.conserved (park at c) 0 0 0 discards (puts_parked before c) refl refl (sym (waits ∙ ap length its.1)),
      )

  pub can_park : (find : ℕ → Option PlainClient) (before : List Step) (counts : Counts) → Counted base limits counts before → IsSound base limits before → ((q : ℕ) → find q ≡ client_at base limits before q) → (c discards : ℕ)
      → None ≡ or_spent (park_refusal base limits before c) (is_spent base limits before (Parked c)) → discards ≡ length (held_entries (find c)) → CanCount counts 0 0 0 discards
  can_park find before counts was sound finds c discards accepted waits =
      let known = park_open c before (unrefused (park_refusal base limits before c) (is_spent base limits before (Parked c)) accepted) in
      can base limits before counts was sound.conserved (Parked c) 0 0 0 discards (puts_parked before c) refl refl (sym (waits ∙ ap length (held base limits find before c finds known).1)) (unspent (park_refusal base limits before c) (is_spent base limits before (Parked c)) accepted)

  -- what is held of the client can be forgotten, and the sessions of its sockets are new
  pub can_part : (c newest : ℕ) (find : ℕ → Option PlainClient) (seat : ℕ → Option Socket) (is_pid : ℕ → Bool) (sets : RoomSets) (table : TableContents) (packets : LogContents) (counts : Counts) (before : List Step)
      → IsHub base limits find seat is_pid sets table packets newest counts before
      → None ≡ or_spent (park_refusal base limits before c) (is_spent base limits before (Parked c))
      → AllByRecursion (λ (k : Socket). is_socket sets k.sid ≡ true) (held_sockets (find c)) × EachTwo AreApart (held_sockets (find c)) × HasNoneOf (held_sockets (find c)) table
  unfolding sockets_of
  can_part c newest find seat is_pid sets table packets counts before was accepted =
      let known = park_open c before (unrefused (park_refusal base limits before c) (is_spent base limits before (Parked c)) accepted) in
      let its = held base limits find before c was.0.clients known in
      let gone : List Socket = filter (λ (k : Socket). k.client == c) (sockets base before) in
      let away : AllByRecursion (λ s. is_of gone s ≡ false) (sessions base limits before) = none-away gone (sessions base limits before) (away-some (λ (k : Socket). k.client == c) (sockets base before) (sessions base limits before) was.2.apart) in (
        its-known base limits before sets c (held_sockets (find c)) was.2 was.0.rooms_are its.0,
        its-apart base limits before c (held_sockets (find c)) was.2 its.0,
        subst (λ ks. HasNoneOf ks table) (sym its.0) (subst (HasNoneOf gone) (sym was.0.saved_is) away),
      )
