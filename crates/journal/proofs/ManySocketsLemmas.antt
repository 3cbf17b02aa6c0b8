-- Rising lists of the sockets that match, and what joining or leaving a room together makes of a hub.
use Rattle.std.proofs.Common.{◌≡◌, ℕ, ◌+◌, ◌≤◌, ◌==◌, Bool, true, false, ◌&&◌, ◌||◌, not, List, [], ◌∷◌, map, filter, max, refl, sym, ◌∙◌, ap, subst, arith, if◌then◌else◌, Option, None, Some, nat_cmp, inl, inr}
use Rattle.std.specs.Prelude.{is_some, T, Result, Ok, Err, OnOk, OnErr, IfErr}
use Rattle.std.specs.List.{list_any, AllByRecursion}
use Rattle.std.specs.List.Sorted.{IsStrictlySortedBy}
use Rattle.std.specs.Option.{option_map, option_map_or}
use Rattle.std.proofs.lemmas.List.Kept.{IsStrictlySortedBy-filter}
use Rattle.std.specs.declared.cmp.Ordering.TheVariants.{Less}
use Rattle.std.specs.Ordering.{eq_by_cmp, is_lt}
use Rattle.std.specs.Cmp.{nat_cmp_total, nat_eq_equiv, unsigned_tied}
use Rattle.std.specs.FinMap as finite
use Rattle.std.specs.FinMap.Entries.{is_sorted, below_all}
use Rattle.std.specs.FinMap.Entries as entries
use Rattle.std.proofs.lemmas.Bool.{eqb-true, eq-eqb}
use Rattle.terms.specs.Listing.{ListsRising}
use Rattle.room_maps.specs.Addressed as broadcast
use Rattle.terms.specs.Room.{same_room, own_room}
use Rattle.room_maps.specs.Membership.{RoomSets, AreConsistent, is_socket, is_in, is_full, with_members, without_members, has_unknown, join_all_refusal, leave_all_refusal}
use Rattle.room_maps.specs.declared.error.RoomError.TheVariants.{TooManyRooms, OwnRoom}
use Rattle.room_maps.proofs.BooleanLemmas.{same_bool}
use Rattle.room_maps.proofs.OrderLemmas.{same_room_is}
use Rattle.room_maps.proofs.MembershipLaws.{is_socket-with_members, is_socket-without_members}
use Rattle.recovery.specs.PacketLog.{LogContents}
use Rattle.recovery.specs.SavedTable.{TableContents}
use Rattle.journal.specs.declared.socket.Socket.{Socket}
use Rattle.journal.specs.declared.step.Step.{Step}
use Rattle.journal.specs.declared.step.What.{What}
use Rattle.journal.specs.declared.step.What.TheVariants.{AllJoined, AllLeft}
use Rattle.journal.specs.declared.totals.Counts.{Counts}
use Rattle.journal.specs.declared.error.HubError.{HubError}
use Rattle.journal.specs.declared.error.HubError.TheVariants.{Memory, RoomRefused}
use Rattle.journal.specs.Plain.{PlainBase, Limits, PlainClient, PlainRoomChange}
use Rattle.journal.specs.Journal.{History, moment, moment_at, with_step}
use Rattle.journal.specs.Membership.{open_clients, sockets, sid_of, socket_with, rooms, is_space, is_in_space, matches}
use Rattle.journal.specs.Outboxes.{put, taken_by}
use Rattle.journal.specs.Totals.{placed_by, is_spent}
use Rattle.journal.specs.ManySockets.{rising_by, may_enter, may_exit, ListsSockets, RightJoining, RightLeaving}
use Rattle.journal.specs.Refusals.{or_spent, joining_refusal, leaving_refusal}
use Rattle.journal.specs.Legal.{IsAllowed, IsLegal, IsSound}
use Rattle.journal.specs.Fields.{Counted, CanCount, client_at}
use Rattle.journal.proofs.SumsLemmas.{sum-zero}
use Rattle.journal.proofs.MembershipLemmas.{is_open-quiet, sockets_of-quiet}
use Rattle.journal.proofs.OutboxesLemmas.{waiting-quiet}
use Rattle.journal.proofs.HubLemmas.{legal-step, fields-quiet, sound-quiet}
use Rattle.journal.proofs.CountsLemmas.{counted, can, unspent}
use Rattle.journal.proofs.CommandLemmas.{IsHub}
use Rattle.journal.proofs.EndLemmas.{all-known}
use Rattle.journal.specs.Casting.{is_here, ListsInside}
use Rattle.journal.specs.Command.{refusal, is_found_late, IsErrorOf, Does}
use Rattle.journal.proofs.CastLemmas.{any-map, any-filter, any-at, found-sid}
use Rattle.journal.proofs.MembersLemmas.{contains-filter}

-- ---- rising lists of numbers

abbrev marked : List ℕ → List (ℕ × Unit {0})
marked xs = map (λ x. (x, tt {0})) xs

names : (xs : List ℕ) → map (λ (e : ℕ × Unit {0}). e.0) (marked xs) ≡ xs
names [] = refl
names (x ∷ xs) = ap (λ l. x ∷ l) (names xs)

below : (x : ℕ) (ys : List ℕ) → AllByRecursion (λ y. nat_cmp x y ≡ Less) ys → below_all nat_cmp x (marked ys) ≡ true
below x [] h = refl
below x (y ∷ ys) h = ap (λ o. is_lt o && below_all nat_cmp x (marked ys)) h.0 ∙ below x ys h.1

rises : (xs : List ℕ) → IsStrictlySortedBy nat_cmp xs → is_sorted nat_cmp (marked xs) ≡ true
unfolding IsStrictlySortedBy
rises [] h = refl
rises (x ∷ xs) h = ap (λ b. b && is_sorted nat_cmp (marked xs)) (below x xs h.0) ∙ rises xs h.1

same-mark : (a b : Option (Unit {0})) → is_some a ≡ is_some b → a ≡ b
same-mark None None e = refl
same-mark None (Some u) e = cc
same-mark (Some u) None e = cc
same-mark (Some u) (Some v) e = refl

module _ (id : Socket → ℕ) (test : Socket → Bool) (ks : List Socket) where
  abbrev pairs : List Socket → List (ℕ × Unit {0})
  pairs ls = map (λ (k : Socket). (id k, tt {0})) ls

  ids-paired : (ls : List Socket) → map (λ (e : ℕ × Unit {0}). e.0) (pairs ls) ≡ map id ls
  ids-paired [] = refl
  ids-paired (l ∷ ls) = ap (λ ids. id l ∷ ids) (ids-paired ls)

  tied : (x : ℕ) (ls : List Socket) → list_any (λ (k : Socket). eq_by_cmp nat_cmp x (id k)) ls ≡ list_any (λ (k : Socket). id k == x) ls
  tied x ls i = list_any (λ (k : Socket). (unsigned_tied x (id k) ∙ nat_eq_equiv.symm x (id k)) i) ls

  -- the rising list has the ids of the sockets that pass
  member-rising : (x : ℕ) → list_any (eq_by_cmp nat_cmp x) (rising_by id test ks) ≡ list_any (λ (k : Socket). id k == x && test k) ks
  unfolding rising_by
  member-rising x =
      sym (finite.contains_key-keys (finite.from_entries {R = nat_cmp} (pairs (filter test ks))) x)
      ∙ ap is_some (finite.get-from_entries nat_cmp_total (pairs (filter test ks)) x)
      ∙ entries.is_some-find nat_cmp x (pairs (filter test ks))
      ∙ ap (list_any (eq_by_cmp nat_cmp x)) (ids-paired (filter test ks))
      ∙ any-map (eq_by_cmp nat_cmp x) id (filter test ks)
      ∙ tied x (filter test ks)
      ∙ any-filter (λ (k : Socket). id k == x) test ks

  -- a list that rises and has just these is that list
  pub listed : (xs : List ℕ) → ListsSockets id test ks xs → xs ≡ rising_by id test ks
  unfolding rising_by
  listed xs lists =
      let made : finite.FinMap nat_cmp (Unit {0}) = finite.from_sorted (marked xs) in
      let all : finite.FinMap nat_cmp (Unit {0}) = finite.from_entries (pairs (filter test ks)) in
      let has : finite.keys made ≡ xs = ap (map (λ (e : ℕ × Unit {0}). e.0)) (finite.entries-from_sorted nat_cmp (marked xs) (subst T (sym (rises xs lists.rises)) tt)) ∙ names xs in
      let same : made ≡ all
      = finite.same_map nat_cmp_total finite.nat_cmp-IsAntisymmetric made all
      (λ x. same-mark (finite.get made x) (finite.get all x)
      (finite.contains_key-keys made x ∙ ap (list_any (eq_by_cmp nat_cmp x)) has ∙ lists.exactly x ∙ sym (member-rising x) ∙ sym (finite.contains_key-keys all x))) in
      sym has ∙ ap finite.keys same

-- ---- what is so of one of a list

-- one of the list that passes
witness : (q : ℕ → Bool) (xs : List ℕ) → list_any q xs ≡ true → (x : ℕ) × ((list_any (eq_by_cmp nat_cmp x) xs ≡ true) × (q x ≡ true))
witness q [] e = absurd (cc e)
witness q (x ∷ xs) e = on (q x) refl e (witness q xs)
  where
    on : (b : Bool) → q x ≡ b → (b || list_any q xs) ≡ true → (list_any q xs ≡ true → (y : ℕ) × ((list_any (eq_by_cmp nat_cmp y) xs ≡ true) × (q y ≡ true)))
        → (y : ℕ) × ((list_any (eq_by_cmp nat_cmp y) (x ∷ xs) ≡ true) × (q y ≡ true))
    on true is e rest = (x, (ap (λ b. b || list_any (eq_by_cmp nat_cmp x) xs) (unsigned_tied x x ∙ eq-eqb x x refl), is))
    on false is e rest = let found = rest e in (found.0, (ap (λ b. eq_by_cmp nat_cmp found.0 x || b) found.1.0 ∙ either (eq_by_cmp nat_cmp found.0 x), found.1.1))
      where
        either : (b : Bool) → (b || true) ≡ true
        either true = refl
        either false = refl

passing : (q : ℕ → Bool) (x : ℕ) (xs : List ℕ) → list_any (eq_by_cmp nat_cmp x) xs ≡ true → q x ≡ true → list_any q xs ≡ true
passing q x [] e is = e
passing q x (y ∷ ys) e is = on (eq_by_cmp nat_cmp x y) refl e (passing q x ys)
  where
    on : (b : Bool) → eq_by_cmp nat_cmp x y ≡ b → (b || list_any (eq_by_cmp nat_cmp x) ys) ≡ true → (list_any (eq_by_cmp nat_cmp x) ys ≡ true → q x ≡ true → list_any q ys ≡ true) → (q y || list_any q ys) ≡ true
    on true same e rest = let is_it : x ≡ y = eqb-true x y (sym (unsigned_tied x y) ∙ same) in ap (λ b. b || list_any q ys) (ap q (sym is_it) ∙ is)
    on false same e rest = ap (λ b. q y || b) (rest e is) ∙ either (q y)
      where
        either : (b : Bool) → (b || true) ≡ true
        either true = refl
        either false = refl

-- a socket that passes, and what passes where it does
witness-socket : (p : Socket → Bool) (ks : List Socket) → list_any p ks ≡ true → (k : Socket) × ((p k ≡ true) × ((r : Socket → Bool) → r k ≡ true → list_any r ks ≡ true))
witness-socket p [] e = absurd (cc e)
witness-socket p (k ∷ ks) e = on (p k) refl e (witness-socket p ks)
  where
    either : (b : Bool) → (b || true) ≡ true
    either true = refl
    either false = refl

    on : (b : Bool) → p k ≡ b → (b || list_any p ks) ≡ true → (list_any p ks ≡ true → (l : Socket) × ((p l ≡ true) × ((r : Socket → Bool) → r l ≡ true → list_any r ks ≡ true)))
        → (l : Socket) × ((p l ≡ true) × ((r : Socket → Bool) → r l ≡ true → list_any r (k ∷ ks) ≡ true))
    on true is e rest = (k, (is, λ r e. ap (λ b. b || list_any r ks) e))
    on false is e rest = let found = rest e in (found.0, (found.1.0, λ r e. ap (λ b. r k || b) (found.1.1 r e) ∙ either (r k)))

pub both-true : (a b : Bool) → (a && b) ≡ true → (a ≡ true) × (b ≡ true)
both-true true b e = (refl, e)
both-true false b e = cc

-- what is so of one of the listed ids is so of the id of one of the sockets
pub any-listed : (id : Socket → ℕ) (test : Socket → Bool) (ks : List Socket) (xs : List ℕ) → ListsSockets id test ks xs → (q : ℕ → Bool) → list_any q xs ≡ list_any (λ (k : Socket). test k && q (id k)) ks
any-listed id test ks xs lists q = same_bool (list_any q xs) (list_any (λ (k : Socket). test k && q (id k)) ks) there back
  where
    there : list_any q xs ≡ true → list_any (λ (k : Socket). test k && q (id k)) ks ≡ true
    there e =
        let found = witness q xs e in
        let one = witness-socket (λ (k : Socket). id k == found.0 && test k) ks (sym (lists.exactly found.0) ∙ found.1.0) in
        let is = both-true (id one.0 == found.0) (test one.0) one.1.0 in
        let same : id one.0 ≡ found.0 = eqb-true (id one.0) found.0 is.0 in
        one.1.1 (λ (k : Socket). test k && q (id k)) (rw is.1 (ap q same ∙ found.1.1))

    back : list_any (λ (k : Socket). test k && q (id k)) ks ≡ true → list_any q xs ≡ true
    back e =
        let one = witness-socket (λ (k : Socket). test k && q (id k)) ks e in
        let is = both-true (test one.0) (q (id one.0)) one.1.0 in
        passing q (id one.0) xs (lists.exactly (id one.0) ∙ one.1.1 (λ (k : Socket). id k == id one.0 && test k) (rw (eq-eqb (id one.0) (id one.0) refl) is.0)) is.1

any-none : (p : Socket → Bool) (ks : List Socket) → AllByRecursion (λ (k : Socket). p k ≡ false) ks → list_any p ks ≡ false
any-none p [] h = refl
any-none p (k ∷ ks) h = rw (h.0) (any-none p ks h.1)

all-turned : (P Q : Socket → Type 0) (ks : List Socket) → ((k : Socket) → P k → Q k) → AllByRecursion P ks → AllByRecursion Q ks
all-turned P Q [] to h = tt
all-turned P Q (k ∷ ks) to h = (to k h.0, all-turned P Q ks to h.1)

and-false : (a b : Bool) → b ≡ true → (a && not b) ≡ false
and-false true b e = ap not e
and-false false b e = refl

module _ (base : PlainBase) (limits : Limits) (before : List Step) (sound : IsSound base limits before) (sets : RoomSets) (same : sets ≡ rooms base before) where
  -- the rooms know each socket of such a list
  pub none-unknown : (test : Socket → Bool) (xs : List ℕ) → ListsSockets sid_of test (sockets base before) xs → has_unknown sets xs ≡ false
  none-unknown test xs lists =
      any-listed sid_of test (sockets base before) xs lists (λ s. not (is_socket sets s))
      ∙ any-none (λ (k : Socket). test k && not (is_socket sets k.sid)) (sockets base before)
      (all-turned (λ (k : Socket). is_socket sets k.sid ≡ true) (λ (k : Socket). (test k && not (is_socket sets k.sid)) ≡ false) (sockets base before) (λ k known. and-false (test k) (is_socket sets k.sid) known)
      (all-known base limits before sets sound same))

  -- the rooms refuse what the command refuses
  pub joining-refused : (m : PlainRoomChange) → is_space limits m.space ≡ true → RightJoining base before m
      → joining_refusal base limits before m ≡ option_map RoomRefused (join_all_refusal sets m.changed m.room)
  joining-refused m known right =
      rw (known, none-unknown (may_enter base before m.space m.rooms m.excepted m.room) m.changed right.changed)
      (on (list_any (λ (k : Socket). may_enter base before m.space m.rooms m.excepted m.room k && is_full (rooms base before) k.sid) (sockets base before)) (list_any (λ s. not (is_in sets s m.room) && is_full sets s) m.changed)
      (sym (any-listed sid_of (may_enter base before m.space m.rooms m.excepted m.room) (sockets base before) m.changed right.changed (λ s. not (is_in sets s m.room) && is_full sets s)
      ∙ ap (λ (v : RoomSets). list_any (λ (k : Socket). may_enter base before m.space m.rooms m.excepted m.room k && (not (is_in v k.sid m.room) && is_full v k.sid)) (sockets base before)) same
      ∙ (λ i. list_any (λ (k : Socket). once (matches base before m.space m.rooms m.excepted k) (is_in (rooms base before) k.sid m.room) (is_full (rooms base before) k.sid) i) (sockets base before)))))
    where
      once : (a b f : Bool) → ((a && not b) && (not b && f)) ≡ ((a && not b) && f)
      once true true f = refl
      once true false f = refl
      once false b f = refl

      on : (a b : Bool) → a ≡ b → (if a then Some (RoomRefused TooManyRooms) else None) ≡ option_map RoomRefused (if b then Some TooManyRooms else None)
      on true true e = refl
      on false false e = refl
      on true false e = cc
      on false true e = cc

  pub leaving-refused : (m : PlainRoomChange) → is_space limits m.space ≡ true → AreConsistent sets → RightLeaving base before m
      → leaving_refusal base limits before m ≡ option_map RoomRefused (leave_all_refusal sets m.changed m.room)
  leaving-refused m known agree right =
      rw (known, none-unknown (may_exit base before m.space m.rooms m.excepted m.room) m.changed right.changed)
      (on (list_any (λ (k : Socket). matches base before m.space m.rooms m.excepted k && same_room (own_room k.sid) m.room) (sockets base before)) (list_any (λ s. same_room (own_room s) m.room) m.changed)
      (sym (any-listed sid_of (may_exit base before m.space m.rooms m.excepted m.room) (sockets base before) m.changed right.changed (λ s. same_room (own_room s) m.room)
      ∙ any-agree (λ (k : Socket). is_socket sets k.sid ≡ true) (λ (k : Socket). may_exit base before m.space m.rooms m.excepted m.room k && same_room (own_room k.sid) m.room)
      (λ (k : Socket). matches base before m.space m.rooms m.excepted k && same_room (own_room k.sid) m.room)
      (λ k is. owns (matches base before m.space m.rooms m.excepted k) (is_in (rooms base before) k.sid m.room) (same_room (own_room k.sid) m.room) (inside k is)) (sockets base before) (all-known base limits before sets sound same))))
    where
      any-agree : (P : Socket → Type 0) (p r : Socket → Bool) → ((k : Socket) → P k → p k ≡ r k) → (ks : List Socket) → AllByRecursion P ks → list_any p ks ≡ list_any r ks
      any-agree P p r to [] h = refl
      any-agree P p r to (k ∷ ks) h = rw (to k h.0, any-agree P p r to ks h.1) refl

      inside : (k : Socket) → is_socket sets k.sid ≡ true → same_room (own_room k.sid) m.room ≡ true → is_in (rooms base before) k.sid m.room ≡ true
      inside k is e =
          ap (λ (v : RoomSets). is_in v k.sid m.room) (sym same)
          ∙ ap (is_in sets k.sid) (sym (same_room_is (own_room k.sid) m.room e))
          ∙ agree.own_rooms k.sid is

      owns : (a b f : Bool) → (f ≡ true → b ≡ true) → ((a && b) && f) ≡ (a && f)
      owns true true f h = refl
      owns true false true h = h refl
      owns true false false h = refl
      owns false b f h = refl

      on : (a b : Bool) → a ≡ b → (if a then Some (RoomRefused OwnRoom) else None) ≡ option_map RoomRefused (if b then Some OwnRoom else None)
      on true true e = refl
      on false false e = refl
      on true false e = cc
      on false true e = cc

-- ---- the lists that the commands make

module _ (base : PlainBase) (limits : Limits) (before : List Step) (sound : IsSound base limits before) (seat : ℕ → Option Socket) (seats : (s : ℕ) → seat s ≡ socket_with sid_of base before s) where
  abbrev all : List Socket
  all = sockets base before

  at-socket : (x : ℕ) (g : Socket → Bool) → list_any (λ (k : Socket). k.sid == x && g k) all ≡ option_map_or g (seat x) false
  unfolding socket_with
  at-socket x g = any-at all sound.sockets_apart x g ∙ ap (λ o. option_map_or g o false) (sym (seats x))

  its-sid : (x : ℕ) (k : Socket) → seat x ≡ Some k → k.sid ≡ x
  unfolding socket_with
  its-sid x k e = found-sid x k all (sym (seats x) ∙ e)

  -- of the sockets that a walk finds, those in the namespace are those that match
  pub matching-lists : (space : ℕ) (named excepted : List (List ℕ)) (sids : List ℕ) → ListsInside (is_in_space base before space) (broadcast.is_addressed (rooms base before) named excepted) sids
      → ListsSockets sid_of (matches base before space named excepted) all (filter (λ s. is_here space (seat s)) sids)
  matching-lists space named excepted sids lists = record {
    rises = IsStrictlySortedBy-filter nat_cmp (λ s. is_here space (seat s)) sids lists.rises;
    exactly = λ x. contains-filter x (λ s. is_here space (seat s)) sids ∙ on x (seat x) refl;
  }
    where
      on : (x : ℕ) (o : Option Socket) → seat x ≡ o → (is_here space o && list_any (eq_by_cmp nat_cmp x) sids) ≡ list_any (λ (k : Socket). k.sid == x && matches base before space named excepted k) all
      on x None e = sym (at-socket x (matches base before space named excepted) ∙ ap (λ o. option_map_or (matches base before space named excepted) o false) e)
      on x (Some k) e = in-space (k.space == space) refl ∙ sym (at-socket x (matches base before space named excepted) ∙ ap (λ o. option_map_or (matches base before space named excepted) o false) e)
        where
          in-space : (b : Bool) → (k.space == space) ≡ b → (b && list_any (eq_by_cmp nat_cmp x) sids) ≡ (b && broadcast.is_addressed (rooms base before) named excepted k.sid)
          in-space true is =
              lists.exactly x (at-socket x (λ (k : Socket). k.space == space) ∙ ap (λ o. option_map_or (λ (k : Socket). k.space == space) o false) e ∙ is)
              ∙ ap (broadcast.is_addressed (rooms base before) named excepted) (sym (its-sid x k e))
          in-space false is = refl

  -- of the sockets that match, those that are in a room, or aren't
  pub sifted : (space : ℕ) (named excepted : List (List ℕ)) (p : ℕ → Bool) (sids : List ℕ) → ListsSockets sid_of (matches base before space named excepted) all sids
      → ListsSockets sid_of (λ (k : Socket). matches base before space named excepted k && p k.sid) all (filter p sids)
  sifted space named excepted p sids lists = record {
    rises = IsStrictlySortedBy-filter nat_cmp p sids lists.rises;
    exactly = λ x. contains-filter x p sids ∙ ap (λ b. p x && b) (lists.exactly x) ∙ both x (matches base before space named excepted);
  }
    where
      both : (x : ℕ) (g : Socket → Bool) → (p x && list_any (λ (k : Socket). k.sid == x && g k) all) ≡ list_any (λ (k : Socket). k.sid == x && (g k && p k.sid)) all
      both x g = ap (λ b. p x && b) (at-socket x g) ∙ on (seat x) refl ∙ sym (at-socket x (λ (k : Socket). g k && p k.sid))
        where
          on : (o : Option Socket) → seat x ≡ o → (p x && option_map_or g o false) ≡ option_map_or (λ (k : Socket). g k && p k.sid) o false
          on None e = none (p x)
            where
              none : (b : Bool) → (b && false) ≡ false
              none true = refl
              none false = refl
          on (Some k) e = turned (p x) (g k) ∙ ap (λ y. g k && p y) (sym (its-sid x k e))
            where
              turned : (a b : Bool) → (a && b) ≡ (b && a)
              turned true true = refl
              turned true false = refl
              turned false true = refl
              turned false false = refl

  -- what the rooms say has changed is the list that they were given, where all of it passes
  pub all-changed : (test : Socket → Bool) (p : ℕ → Bool) → ((k : Socket) → test k ≡ true → p k.sid ≡ true) → (xs ys : List ℕ) → ListsSockets sid_of test all xs
      → ListsRising nat_cmp (λ x. list_any (eq_by_cmp nat_cmp x) xs && p x) ys → ys ≡ xs
  all-changed test p passes xs ys lists changed =
      listed sid_of test all ys (record { rises = changed.rises; exactly = λ x. changed.exactly x ∙ ap (λ b. b && p x) (lists.exactly x) ∙ kept-whole x }) ∙ sym (listed sid_of test all xs lists)
    where
      kept-whole : (x : ℕ) → (list_any (λ (k : Socket). k.sid == x && test k) all && p x) ≡ list_any (λ (k : Socket). k.sid == x && test k) all
      kept-whole x = ap (λ b. b && p x) (at-socket x test) ∙ on (seat x) refl ∙ sym (at-socket x test)
        where
          on : (o : Option Socket) → seat x ≡ o → (option_map_or test o false && p x) ≡ option_map_or test o false
          on None e = refl
          on (Some k) e = whole (test k) refl
            where
              whole : (b : Bool) → test k ≡ b → (b && p x) ≡ b
              whole true is = ap p (sym (its-sid x k e)) ∙ passes k is
              whole false is = refl

-- ---- the answer of a command whose refusal is found late

-- want of memory, once the namespace is known
pub short-late : (refused : Option HubError) (known : Bool) → known ≡ true → IsErrorOf known refused Memory
short-late refused true e = inl refl
short-late refused false e = cc

pub refused-late : (refused : Option HubError) (known : Bool) (e : HubError) → known ≡ true → Some e ≡ refused → IsErrorOf known refused e
refused-late refused true e is told = inr told
refused-late refused false e is told = cc

pub does-late : {X : Type 0} (before after : History) (now : ℕ) (what : What) (result : Result X HubError) → is_found_late before.limits what ≡ true → None ≡ refusal before (moment_at before now) what
    → OnOk result (after ≡ with_step before now what) → OnErr result (after ≡ before) → IfErr result (λ e. e ≡ Memory) → Does before after now what result
does-late before after now what (Ok x) late free done same memory = (sym free, done)
does-late before after now what (Err e) late free done same memory =
    (subst (IsErrorOf (is_found_late before.limits what) (refusal before (moment_at before now) what)) (sym memory) (short-late (refusal before (moment_at before now) what) (is_found_late before.limits what) late), same)

-- ---- the steps

module _ (base : PlainBase) (limits : Limits) where
  joining-client : (m : PlainRoomChange) (at : ℕ) (before : List Step) → IsLegal base limits before → (q : ℕ) → client_at base limits (record { at = at; what = AllJoined m } ∷ before) q ≡ client_at base limits before q
  unfolding put
  joining-client m at before legal q =
      let step : Step = record { at = at; what = AllJoined m } in
      rw (is_open-quiet base step before refl (λ c. refl) q, sockets_of-quiet base step before refl (λ k. refl) q, waiting-quiet base limits step before legal q refl refl refl) refl

  leaving-client : (m : PlainRoomChange) (at : ℕ) (before : List Step) → IsLegal base limits before → (q : ℕ) → client_at base limits (record { at = at; what = AllLeft m } ∷ before) q ≡ client_at base limits before q
  unfolding put
  leaving-client m at before legal q =
      let step : Step = record { at = at; what = AllLeft m } in
      rw (is_open-quiet base step before refl (λ c. refl) q, sockets_of-quiet base step before refl (λ k. refl) q, waiting-quiet base limits step before legal q refl refl refl) refl

  pub puts_joining : (before : List Step) (m : PlainRoomChange) → placed_by base limits before (AllJoined m) ≡ 0
  unfolding put
  puts_joining before m = refl

  pub puts_leaving : (before : List Step) (m : PlainRoomChange) → placed_by base limits before (AllLeft m) ≡ 0
  unfolding put
  puts_leaving before m = refl

  pub all-joined : (m : PlainRoomChange) (now newest : ℕ) (find : ℕ → Option PlainClient) (seat : ℕ → Option Socket) (is_pid : ℕ → Bool) (sets sets' : RoomSets) (table : TableContents) (packets : LogContents) (counts : Counts) (before : List Step)
      → IsHub base limits find seat is_pid sets table packets newest counts before
      → None ≡ or_spent (joining_refusal base limits before m) (is_spent base limits before (AllJoined m)) → RightJoining base before m
      → sets' ≡ with_members sets m.changed m.room → AreConsistent sets'
      → IsHub base limits find seat is_pid sets' table packets (max now newest) (record { commands = counts.commands + 1; placed = counts.placed + 0; dropped = counts.dropped + 0; taken = counts.taken + 0; discarded = counts.discarded + 0 }) (record { at = max now newest; what = AllJoined m } ∷ before)
  unfolding put
  all-joined m now newest find seat is_pid sets sets' table packets counts before was accepted right change consistent =
      let step : Step = record { at = max now newest; what = AllJoined m } in
      let late : moment base before ≤ max now newest = rw (← was.0.last) (omega arith) in
      let agree : AreConsistent (with_members (rooms base before) m.changed m.room) = subst AreConsistent (change ∙ ap (λ v. with_members v m.changed m.room) was.0.rooms_are) consistent in
      let fine : IsAllowed base limits before step step.what = (sym accepted, right) in (
        fields-quiet base limits step before find find seat is_pid sets sets' table packets newest was.0 refl (λ k. refl) (record { same_sessions = refl; no_call = refl; unused = refl }) (omega arith) change (λ q. was.0.clients q ∙ sym (joining-client m (max now newest) before was.1 q)),
        legal-step base limits step before fine late was.1,
        sound-quiet base limits step before was.1 fine was.2 late refl (λ c. refl) refl (λ k. refl) (λ c. refl) (record { same_sessions = refl; no_call = refl; unused = refl }) (is_socket-with_members (rooms base before) m.changed m.room) agree tt (sum-zero (λ c. taken_by c (AllJoined m)) (open_clients base before) (λ c e. refl)) refl,
        counted base limits before counts was.3 was.2.conserved step 0 0 0 0 (puts_joining before m) refl refl refl,
      )

  pub can_join_all : (before : List Step) (counts : Counts) → Counted base limits counts before → IsSound base limits before → (m : PlainRoomChange) → None ≡ or_spent (joining_refusal base limits before m) (is_spent base limits before (AllJoined m)) → CanCount counts 0 0 0 0
  can_join_all before counts was sound m accepted =
      can base limits before counts was sound.conserved (AllJoined m) 0 0 0 0 (puts_joining before m) refl refl refl (unspent (joining_refusal base limits before m) (is_spent base limits before (AllJoined m)) accepted)

  pub all-left : (m : PlainRoomChange) (now newest : ℕ) (find : ℕ → Option PlainClient) (seat : ℕ → Option Socket) (is_pid : ℕ → Bool) (sets sets' : RoomSets) (table : TableContents) (packets : LogContents) (counts : Counts) (before : List Step)
      → IsHub base limits find seat is_pid sets table packets newest counts before
      → None ≡ or_spent (leaving_refusal base limits before m) (is_spent base limits before (AllLeft m)) → RightLeaving base before m
      → sets' ≡ without_members sets m.changed m.room → AreConsistent sets'
      → IsHub base limits find seat is_pid sets' table packets (max now newest) (record { commands = counts.commands + 1; placed = counts.placed + 0; dropped = counts.dropped + 0; taken = counts.taken + 0; discarded = counts.discarded + 0 }) (record { at = max now newest; what = AllLeft m } ∷ before)
  unfolding put
  all-left m now newest find seat is_pid sets sets' table packets counts before was accepted right change consistent =
      let step : Step = record { at = max now newest; what = AllLeft m } in
      let late : moment base before ≤ max now newest = rw (← was.0.last) (omega arith) in
      let agree : AreConsistent (without_members (rooms base before) m.changed m.room) = subst AreConsistent (change ∙ ap (λ v. without_members v m.changed m.room) was.0.rooms_are) consistent in
      let fine : IsAllowed base limits before step step.what = (sym accepted, right) in (
        fields-quiet base limits step before find find seat is_pid sets sets' table packets newest was.0 refl (λ k. refl) (record { same_sessions = refl; no_call = refl; unused = refl }) (omega arith) change (λ q. was.0.clients q ∙ sym (leaving-client m (max now newest) before was.1 q)),
        legal-step base limits step before fine late was.1,
        sound-quiet base limits step before was.1 fine was.2 late refl (λ c. refl) refl (λ k. refl) (λ c. refl) (record { same_sessions = refl; no_call = refl; unused = refl }) (is_socket-without_members (rooms base before) m.changed m.room) agree tt (sum-zero (λ c. taken_by c (AllLeft m)) (open_clients base before) (λ c e. refl)) refl,
        counted base limits before counts was.3 was.2.conserved step 0 0 0 0 (puts_leaving before m) refl refl refl,
      )

  pub can_leave_all : (before : List Step) (counts : Counts) → Counted base limits counts before → IsSound base limits before → (m : PlainRoomChange) → None ≡ or_spent (leaving_refusal base limits before m) (is_spent base limits before (AllLeft m)) → CanCount counts 0 0 0 0
  can_leave_all before counts was sound m accepted =
      can base limits before counts was sound.conserved (AllLeft m) 0 0 0 0 (puts_leaving before m) refl refl refl (unspent (leaving_refusal base limits before m) (is_spent base limits before (AllLeft m)) accepted)
