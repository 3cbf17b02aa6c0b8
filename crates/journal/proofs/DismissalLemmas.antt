-- What ending many sockets of a namespace makes of a hub.
use Rattle.std.proofs.Common.{◌≡◌, ◌≢◌, ℕ, ◌+◌, ◌<◌, ◌≤◌, ◌==◌, Bool, true, false, ◌&&◌, ◌||◌, not, List, [], ◌∷◌, ◌++◌, length, filter, take, map, max, refl, sym, ◌∙◌, ap, subst, arith, if◌then◌else◌, Option, None, Some, nat_eq, nat_cmp, add-one}
use Rattle.std.specs.Prelude.{get_or, slice_index_or}
use Rattle.std.specs.List.{list_any, find, flat_map, dedup, dedup_from, IsDistinct, AllByRecursion}
use Rattle.std.specs.List.Sorted.{IsStrictlySortedBy, IsSorted, IsPermutation}
use Rattle.std.specs.Option.{option_map, option_map_or}
use Rattle.std.specs.Ordering.{eq_by_cmp}
use Rattle.std.specs.Cmp.{nat_cmp_total, nat_eq_equiv, unsigned_tied}
use Rattle.std.proofs.lemmas.Bool.{eqb-true, eq-eqb}
use Rattle.std.proofs.lemmas.List.Kept.{IsStrictlySortedBy-filter, IsStrictlySortedBy-dedup}
use Rattle.std.proofs.lemmas.List.Sorted.{list_any-IsPermutation}
use Rattle.std.proofs.lemmas.Map.Keys.{IsDistinct-from_sorted, IsDistinct-IsPermutation}
use Rattle.terms.specs.Listing.{ListsRising}
use Rattle.terms.specs.declared.entry.Entry.{Entry}
use Rattle.sio_wire.specs.Disconnect.{disconnect_text}
use Rattle.room_maps.specs.Membership.{RoomSets, AreConsistent, is_socket, is_in}
use Rattle.room_maps.specs.Addressed as broadcast
use Rattle.room_maps.proofs.MembershipLemmas.{same_sets}
use Rattle.recovery.specs.PacketLog.{LogContents}
use Rattle.recovery.specs.SavedTable.{TableContents}
use Rattle.journal.specs.declared.socket.Socket.{Socket}
use Rattle.journal.specs.declared.step.Step.{Step}
use Rattle.journal.specs.declared.step.What.TheVariants.{AllEnded}
use Rattle.journal.specs.declared.totals.Counts.{Counts}
use Rattle.journal.specs.Plain.{PlainBase, Limits, PlainClient, PlainDismissal, PlainMessage}
use Rattle.journal.specs.Journal.{moment, History}
use Rattle.journal.specs.Membership.{open_clients, is_open, ends, sockets, sid_of, pid_of, has_id, socket_with, is_space, is_in_space, sockets_of, rooms, without_sockets, matches}
use Rattle.journal.specs.Sessions.{sessions}
use Rattle.journal.specs.Outboxes.{farewell, put, entries_for, taken_by, waiting, is_full}
use Rattle.journal.specs.ManySockets.{client_of, may_hear, ListsSockets, RightDismissal, dismissal}
use Rattle.journal.specs.Totals.{placed_by, is_spent}
use Rattle.journal.specs.Refusals.{or_spent, space_refusal}
use Rattle.journal.specs.Legal.{IsAllowed, IsLegal, IsSound, IsAway, EachTwo, AreApart}
use Rattle.journal.specs.Fields.{Counted, CanCount, client_at, without_place}
use Rattle.journal.specs.Casting.{in_space, ListsInside, is_full_in, messages_for, receiver_of, pair_of, with_entries}
use Rattle.journal.specs.Dismissing.{ListsMatching, Dismisses}
use Rattle.journal.proofs.SumsLemmas.{sum-zero}
use Rattle.journal.proofs.MembershipLemmas.{clients-quiet, is_open-quiet, filter-all}
use Rattle.journal.proofs.OutboxesLemmas.{waiting-step}
use Rattle.journal.proofs.TotalsLemmas.{conserved-step, flow-quiet}
use Rattle.journal.proofs.SessionsLemmas.{LeavesBacklog, sessions-quiet, table-quiet, packets-quiet, backlog-quiet}
use Rattle.journal.proofs.HubLemmas.{legal-step}
use Rattle.journal.proofs.CountsLemmas.{counted, can}
use Rattle.journal.proofs.CommandLemmas.{IsHub}
use Rattle.journal.proofs.EndLemmas.{all-by, any-next, all-known, filter-swap, is_socket-without_sockets, ended_by, away-ended, sockets-ended, ended-fields, ended-sound}
use Rattle.journal.proofs.LastWordLemmas.{is_in-without_sockets}
use Rattle.journal.proofs.CastLemmas.{any-filter, any-map, any-none, any-same, all-both, any-at, any-here, sids-here, all-here, IsHere, here-once, each-found, once-filter, space-clients-once, messages-are, all-places, map-receivers, map-pairs, entries-once, length-map}
use Rattle.journal.proofs.ManySocketsLemmas.{listed, any-listed}

-- ---- lists of sockets

-- what is so of a socket that is found
found-is : (P : Socket → Type 0) (s : ℕ) (k : Socket) (ks : List Socket) → AllByRecursion P ks → find (has_id sid_of s) ks ≡ Some k → P k
found-is P s k [] all e = cc
found-is P s k (l ∷ ks) all e = on (l.sid == s) e (found-is P s k ks all.1)
  where
    on : (b : Bool) → (if b then Some l else find (has_id sid_of s) ks) ≡ Some k → (find (has_id sid_of s) ks ≡ Some k → P k) → P k
    on true e ih = let same : l ≡ k = cc in subst P same all.0
    on false e ih = ih e

turned : (k l : Socket) → AreApart k l → AreApart l k
turned k l apart = ((λ e. apart.0 (sym e)), (λ e. apart.1 (sym e)), (λ c s. apart.2 (sym c) (sym s)))

-- two that are found by different ids are apart
found-both : (ks : List Socket) → EachTwo AreApart ks → (s t : ℕ) (k l : Socket) → find (has_id sid_of s) ks ≡ Some k → find (has_id sid_of t) ks ≡ Some l → s ≢ t → AreApart k l
unfolding EachTwo
found-both [] apart s t k l a b n = cc
found-both (m ∷ ks) apart s t k l a b n = on (m.sid == s) (m.sid == t) refl refl a b (λ x y. found-both ks apart.1 s t k l x y n)
  where
    on : (p q : Bool) → (m.sid == s) ≡ p → (m.sid == t) ≡ q → (if p then Some m else find (has_id sid_of s) ks) ≡ Some k → (if q then Some m else find (has_id sid_of t) ks) ≡ Some l
        → (find (has_id sid_of s) ks ≡ Some k → find (has_id sid_of t) ks ≡ Some l → AreApart k l) → AreApart k l
    on true true x y a b ih = absurd (n (sym (eqb-true m.sid s x) ∙ eqb-true m.sid t y))
    on true false x y a b ih = let is : m ≡ k = cc in subst (λ z. AreApart z l) is (found-is (AreApart m) t l ks apart.0 b)
    on false true x y a b ih = let is : m ≡ l = cc in subst (AreApart k) is (turned m k (found-is (AreApart m) s k ks apart.0 a))
    on false false x y a b ih = ih a b

-- sockets that are found by different ids are apart
module _ (ks : List Socket) (apart : EachTwo AreApart ks) where
  abbrev IsFound : Socket → Type 0
  IsFound k = find (has_id sid_of k.sid) ks ≡ Some k

  one-apart : (k : Socket) → IsFound k → (ls : List Socket) → AllByRecursion IsFound ls → AllByRecursion (λ y. nat_eq k.sid y ≡ false) (map sid_of ls) → AllByRecursion (AreApart k) ls
  one-apart k is [] all other = tt
  one-apart k is (l ∷ ls) all other =
      (found-both ks apart k.sid l.sid k l is all.0 (λ same. let yes : nat_eq k.sid l.sid ≡ true = eq-eqb k.sid l.sid same in let no = other.0 in cc), one-apart k is ls all.1 other.1)

  found-apart : (ls : List Socket) → AllByRecursion IsFound ls → IsDistinct nat_eq (map sid_of ls) → EachTwo AreApart ls
  unfolding EachTwo IsDistinct
  found-apart [] all once = tt
  found-apart (l ∷ ls) all once = (one-apart l all.0 ls all.1 once.0, found-apart ls all.1 once.1)

-- of a client's sockets just one is in a namespace
module _ (place : ℕ) (g : Socket → Bool) where
  abbrev is_there : ℕ → Socket → Bool
  is_there c l = l.client == c && (l.space == place && g l)

  not-there : (k l : Socket) → AreApart k l → (k.space == place) ≡ true → is_there k.client l ≡ false
  not-there k l apart here = on (l.client == k.client) (l.space == place) refl refl
    where
      on : (a b : Bool) → (l.client == k.client) ≡ a → (l.space == place) ≡ b → (a && (b && g l)) ≡ false
      on true true c s = absurd (apart.2 (sym (eqb-true l.client k.client c)) (eqb-true k.space place here ∙ sym (eqb-true l.space place s)))
      on true false c s = refl
      on false b c s = refl

  none-there : (k : Socket) → (k.space == place) ≡ true → (ls : List Socket) → AllByRecursion (AreApart k) ls → list_any (is_there k.client) ls ≡ false
  none-there k here [] all = refl
  none-there k here (l ∷ ls) all = rw (not-there k l all.0 here, none-there k here ls all.1) refl

  alone-there : (ks : List Socket) → EachTwo AreApart ks → AllByRecursion (λ (k : Socket). (k.space == place) ≡ true → list_any (is_there k.client) ks ≡ g k) ks
  unfolding EachTwo
  alone-there [] apart = tt
  alone-there (k ∷ ks) apart = (first, others ks apart.0 (alone-there ks apart.1))
    where
      itself : (b : Bool) → (b || false) ≡ b
      itself true = refl
      itself false = refl

      first : (k.space == place) ≡ true → (is_there k.client k || list_any (is_there k.client) ks) ≡ g k
      first here = let same : (k.client == k.client) ≡ true = eq-eqb k.client k.client refl in rw (same, here, none-there k here ks apart.0) (itself (g k))

      others : (ls : List Socket) → AllByRecursion (AreApart k) ls → AllByRecursion (λ (l : Socket). (l.space == place) ≡ true → list_any (is_there l.client) ks ≡ g l) ls
          → AllByRecursion (λ (l : Socket). (l.space == place) ≡ true → (is_there l.client k || list_any (is_there l.client) ks) ≡ g l) ls
      others [] all rest = tt
      others (l ∷ ls) all rest = ((λ here. ap (λ b. b || list_any (is_there l.client) ks) (not-there l k (turned k l all.0) here) ∙ rest.0 here), others ls all.1 rest.1)

all-passes : {A : Type 0} (p : A → Bool) (xs : List A) → list_any (λ x. not (p x)) xs ≡ false → AllByRecursion (λ x. p x ≡ true) xs
all-passes p [] e = tt
all-passes p (x ∷ xs) e = on (p x) refl e (all-passes p xs)
  where
    on : (b : Bool) → p x ≡ b → (not b || list_any (λ x. not (p x)) xs) ≡ false → (list_any (λ x. not (p x)) xs ≡ false → AllByRecursion (λ x. p x ≡ true) xs) → AllByRecursion (λ x. p x ≡ true) (x ∷ xs)
    on true is e rest = (is, rest e)
    on false is e rest = cc

all-fails : {A : Type 0} (p : A → Bool) (xs : List A) → list_any p xs ≡ false → AllByRecursion (λ x. p x ≡ false) xs
all-fails p [] e = tt
all-fails p (x ∷ xs) e = on (p x) refl e (all-fails p xs)
  where
    on : (b : Bool) → p x ≡ b → (b || list_any p xs) ≡ false → (list_any p xs ≡ false → AllByRecursion (λ x. p x ≡ false) xs) → AllByRecursion (λ x. p x ≡ false) (x ∷ xs)
    on true is e rest = cc
    on false is e rest = (is, rest e)

-- what fails for each
none-passes : {A : Type 0} (P : A → Type 0) (p : A → Bool) → ((x : A) → P x → p x ≡ false) → (xs : List A) → AllByRecursion P xs → list_any p xs ≡ false
none-passes P p to xs all = any-same P p (λ x. false) to xs all ∙ any-none xs

filter-kept : {A : Type 0} (t : A → Bool) (xs : List A) → AllByRecursion (λ x. t x ≡ true) xs → filter t xs ≡ xs
filter-kept t [] h = refl
filter-kept t (x ∷ xs) h = rw (h.0) (ap (λ l. x ∷ l) (filter-kept t xs h.1))

-- two tests that agree on a client's sockets keep the same of them
filter-agree : (q : ℕ) (t u : Socket → Bool) (ks : List Socket) → AllByRecursion (λ (k : Socket). (k.client == q) ≡ true → t k ≡ u k) ks
    → filter t (filter (λ (k : Socket). k.client == q) ks) ≡ filter u (filter (λ (k : Socket). k.client == q) ks)
filter-agree q t u [] h = refl
filter-agree q t u (k ∷ ks) h = on (k.client == q) refl (filter-agree q t u ks h.1)
  where
    on : (b : Bool) → (k.client == q) ≡ b → filter t (filter (λ (k : Socket). k.client == q) ks) ≡ filter u (filter (λ (k : Socket). k.client == q) ks)
        → filter t (if b then k ∷ filter (λ (k : Socket). k.client == q) ks else filter (λ (k : Socket). k.client == q) ks)
        ≡ filter u (if b then k ∷ filter (λ (k : Socket). k.client == q) ks else filter (λ (k : Socket). k.client == q) ks)
    on true e rest = ap (λ b. if b then k ∷ filter t (filter (λ (k : Socket). k.client == q) ks) else filter t (filter (λ (k : Socket). k.client == q) ks)) (h.0 e) ∙ ap (λ l. if u k then k ∷ l else l) rest
    on false e rest = rest

-- ---- rising lists of clients

-- nothing is dropped from a list in which each stands once
module _ (same : ℕ → ℕ → Bool) where
  dedup_from-once : (x : ℕ) (xs : List ℕ) → AllByRecursion (λ y. same y x ≡ false) xs → IsDistinct (λ a b. same b a) xs → dedup_from same x xs ≡ x ∷ xs
  unfolding IsDistinct
  dedup_from-once x [] other once = refl
  dedup_from-once x (y ∷ ys) other once = rw (other.0) (ap (λ l. x ∷ l) (dedup_from-once y ys once.0 once.1))

  dedup-once : (xs : List ℕ) → IsDistinct (λ a b. same b a) xs → dedup same xs ≡ xs
  unfolding IsDistinct
  dedup-once [] once = refl
  dedup-once (x ∷ xs) once = dedup_from-once x xs once.0 once.1

-- numbers of which each stands once rise after a sort
pub sorted-once : (xs ys : List ℕ) → IsDistinct nat_eq xs → IsPermutation xs ys → IsSorted nat_cmp ys → ListsRising nat_cmp (λ x. list_any (λ y. y == x) xs) ys
sorted-once xs ys once moved sorted = record {
  rises = subst (IsStrictlySortedBy nat_cmp) (dedup-once (λ a b. nat_eq b a) ys (IsDistinct-IsPermutation nat_eq nat_eq_equiv.symm xs ys moved once))
      (IsStrictlySortedBy-dedup nat_cmp_total (λ a b. nat_eq_equiv.symm b a ∙ sym (unsigned_tied a b)) ys sorted);
  exactly = λ x. sym (list_any-IsPermutation (eq_by_cmp nat_cmp x) xs ys moved) ∙ (λ i. list_any (λ y. (unsigned_tied x y ∙ nat_eq_equiv.symm x y) i) xs);
}

-- where each stands once, each of these clients gets the entry once, and the others nothing
entries-each : (e : Entry) (q : ℕ) (cs : List ℕ) → IsDistinct nat_eq cs → entries_for q (map (λ c. (c, e)) cs) ≡ (if list_any (λ c. c == q) cs then e ∷ [] else [])
unfolding IsDistinct
entries-each e q [] once = refl
entries-each e q (c ∷ cs) once = on (c == q) refl (entries-each e q cs once.1)
  where
    absent : c ≡ q → (ds : List ℕ) → AllByRecursion (λ y. nat_eq c y ≡ false) ds → list_any (λ d. d == q) ds ≡ false
    absent is [] all = refl
    absent is (d ∷ ds) all = let other : (d == q) ≡ false = nat_eq_equiv.symm d q ∙ ap (λ z. nat_eq z d) (sym is) ∙ all.0 in rw (other, absent is ds all.1) refl

    on : (b : Bool) → (c == q) ≡ b → entries_for q (map (λ c. (c, e)) cs) ≡ (if list_any (λ c. c == q) cs then e ∷ [] else [])
        → map (λ (p : ℕ × Entry). p.1) (if b then (c, e) ∷ filter (λ (p : ℕ × Entry). p.0 == q) (map (λ c. (c, e)) cs) else filter (λ (p : ℕ × Entry). p.0 == q) (map (λ c. (c, e)) cs))
        ≡ (if (b || list_any (λ c. c == q) cs) then e ∷ [] else [])
    on true is ih = ap (λ l. e ∷ l) (ih ∙ ap (λ t. if t then e ∷ [] else []) (absent (eqb-true c q is) cs once.0))
    on false is ih = ih

-- ---- the sockets that match

module _ (base : PlainBase) (limits : Limits) (before : List Step) (sound : IsSound base limits before) where
  -- those of a list of addressees that are in the namespace
  pub matching : (space : ℕ) (named excepted : List (List ℕ)) (seat : ℕ → Option Socket) → ((s : ℕ) → seat s ≡ socket_with sid_of base before s) → (sids : List ℕ)
      → ListsInside (is_in_space base before space) (broadcast.is_addressed (rooms base before) named excepted) sids
      → ListsMatching base before space named excepted (flat_map (λ s. in_space space (seat s)) sids)
  unfolding socket_with
  matching space named excepted seat seats sids lists =
      let test : ℕ → Bool = broadcast.is_addressed (rooms base before) named excepted in
      let once = here-once (sockets base before) sound.sockets_apart seat seats space test sids lists in
      record {
        rises = subst (IsStrictlySortedBy nat_cmp) (sym (sids-here (sockets base before) sound.sockets_apart seat seats space test sids lists sids))
            (IsStrictlySortedBy-filter nat_cmp (λ s. option_map_or (λ (k : Socket). k.space == space) (seat s) false) sids lists.rises);
        apart = found-apart (sockets base before) sound.sockets_apart _
            (all-by (IsHere (sockets base before) sound.sockets_apart seat seats space test sids lists) (IsFound (sockets base before) sound.sockets_apart) (λ k h. h.0) _
            (all-here (sockets base before) sound.sockets_apart seat seats space test sids lists sids)) once;
        exactly = any-here (sockets base before) sound.sockets_apart seat seats space test sids lists;
      }

module _ (base : PlainBase) (limits : Limits) (before : List Step) (sound : IsSound base limits before) (space : ℕ) (named excepted : List (List ℕ)) (ks : List Socket) (lists : ListsMatching base before space named excepted ks) where
  abbrev hits : Socket → Bool
  hits k = matches base before space named excepted k

  -- what all connected sockets have these have
  pub all-matching : (p : Socket → Bool) → AllByRecursion (λ (k : Socket). p k ≡ true) (sockets base before) → AllByRecursion (λ (k : Socket). p k ≡ true) ks
  all-matching p all =
      all-passes p ks (lists.exactly (λ (k : Socket). not (p k)) ∙ none-passes (λ (k : Socket). p k ≡ true) (λ (k : Socket). not (p k) && hits k) (λ k e. rw e refl) (sockets base before) all)

  pub all-there : AllByRecursion (λ (k : Socket). (k.space == space) ≡ true) ks
  all-there =
      all-passes (λ (k : Socket). k.space == space) ks (lists.exactly (λ (k : Socket). not (k.space == space))
      ∙ (λ i. list_any (λ (k : Socket). apart-from (k.space == space) (broadcast.is_addressed (rooms base before) named excepted k.sid) i) (sockets base before)) ∙ any-none (sockets base before))
    where
      apart-from : (a b : Bool) → (not a && (a && b)) ≡ false
      apart-from true b = refl
      apart-from false b = refl

  pub its-clients-once : IsDistinct nat_eq (map client_of ks)
  its-clients-once =
      subst (λ l. IsDistinct nat_eq (map client_of l)) (filter-kept (λ (k : Socket). k.space == space) ks all-there)
      (space-clients-once space (λ (k : Socket). k.space == space) (λ k e. eqb-true k.space space e) ks lists.apart)

  -- their ids
  pub ended-right : ListsSockets sid_of hits (sockets base before) (map sid_of ks)
  ended-right = record {
    rises = lists.rises;
    exactly = λ x.
        any-map (eq_by_cmp nat_cmp x) sid_of ks ∙ lists.exactly (λ (k : Socket). eq_by_cmp nat_cmp x k.sid)
        ∙ (λ i. list_any (λ (k : Socket). (unsigned_tied x k.sid ∙ nat_eq_equiv.symm x k.sid) i && hits k) (sockets base before));
  }

  module _ (look : ℕ → Option PlainClient) (clients : (c : ℕ) → look c ≡ client_at base limits before c) where
    abbrev full : Socket → Bool
    full k = is_full_in look (farewell limits space) k.client

    abbrev hears : Socket → Bool
    hears k = may_hear base limits before space named excepted k

    full-known : (k : Socket) → is_open base before k.client ≡ true → full k ≡ is_full base limits before k.client (farewell limits space)
    full-known k known = rw (clients k.client, known) refl

    -- those who hear are those with a place
    pub any-hears : (p : Socket → Bool) → list_any p (filter (λ (k : Socket). not (full k)) ks) ≡ list_any (λ (k : Socket). p k && hears k) (sockets base before)
    any-hears p =
        any-filter p (λ (k : Socket). not (full k)) ks
        ∙ lists.exactly (λ (k : Socket). p k && not (full k))
        ∙ any-same (λ (k : Socket). is_open base before k.client ≡ true) (λ (k : Socket). (p k && not (full k)) && hits k) (λ (k : Socket). p k && hears k)
        (λ k known. order (p k) (full k) (hits k) ∙ ap (λ f. p k && (hits k && not f)) (full-known k known)) (sockets base before) sound.of_open_clients
      where
        order : (x y z : Bool) → ((x && not y) && z) ≡ (x && (z && not y))
        order true true true = refl
        order true true false = refl
        order true false true = refl
        order true false false = refl
        order false y z = refl

    -- the clients of the messages
    pub told-right : (messages : List PlainMessage) → messages ≡ messages_for look (farewell limits space) ks → (told : List ℕ) → ListsRising nat_cmp (λ c. list_any (λ d. d == c) (map receiver_of messages)) told
        → ListsSockets client_of hears (sockets base before) told
    told-right messages are told rising = record {
      rises = rising.rises;
      exactly = λ c.
          rising.exactly c
          ∙ ap (λ ms. list_any (λ d. d == c) (map receiver_of ms)) (are ∙ messages-are look (farewell limits space) ks)
          ∙ ap (list_any (λ d. d == c)) (map-receivers look (farewell limits space) (filter (λ (k : Socket). not (full k)) ks))
          ∙ any-map (λ d. d == c) client_of (filter (λ (k : Socket). not (full k)) ks)
          ∙ any-hears (λ (k : Socket). k.client == c);
    }

    pub receivers-once : (messages : List PlainMessage) → messages ≡ messages_for look (farewell limits space) ks → IsDistinct nat_eq (map receiver_of messages)
    receivers-once messages are =
        subst (λ ms. IsDistinct nat_eq (map receiver_of ms)) (sym (are ∙ messages-are look (farewell limits space) ks))
        (subst (IsDistinct nat_eq) (sym (map-receivers look (farewell limits space) (filter (λ (k : Socket). not (full k)) ks))) (once-filter client_of (λ (k : Socket). not (full k)) ks its-clients-once))

    pub have-places : (messages : List PlainMessage) → messages ≡ messages_for look (farewell limits space) ks → AllByRecursion (λ (m : PlainMessage). is_full_in look m.entry m.client ≡ false) messages
    have-places messages are =
        subst (AllByRecursion (λ (m : PlainMessage). is_full_in look m.entry m.client ≡ false)) (sym (are ∙ messages-are look (farewell limits space) ks)) (all-places look (farewell limits space) ks)

    -- the entries that are put are those of the step
    pub entries-told : (messages : List PlainMessage) → messages ≡ messages_for look (farewell limits space) ks → (told : List ℕ) → ListsSockets client_of hears (sockets base before) told
        → (q : ℕ) → entries_for q (map pair_of messages) ≡ entries_for q (map (λ c. (c, farewell limits space)) told)
    entries-told messages are told right q =
        let fits : List Socket = filter (λ (k : Socket). not (full k)) ks in
        let e : Entry = farewell limits space in
        ap (λ ms. entries_for q (map pair_of ms)) (are ∙ messages-are look e ks)
        ∙ ap (entries_for q) (map-pairs look e fits)
        ∙ entries-once e q fits (once-filter client_of (λ (k : Socket). not (full k)) ks its-clients-once)
        ∙ ap (λ t. if t then e ∷ [] else [])
        (any-hears (λ (k : Socket). k.client == q) ∙ sym (right.exactly q) ∙ (λ i. list_any (λ c. (unsigned_tied q c ∙ nat_eq_equiv.symm q c) i) told))
        ∙ sym (entries-each e q told (subst (λ f. IsDistinct f told) (λ i x y. unsigned_tied x y i) (IsDistinct-from_sorted nat_cmp told right.rises)))

    -- the dismissal of these lists
    pub planned : (messages : List PlainMessage) → messages ≡ messages_for look (farewell limits space) ks → (ended : List ℕ) → ended ≡ map sid_of ks → (told : List ℕ) → ListsRising nat_cmp (λ c. list_any (λ d. d == c) (map receiver_of messages)) told
        → Dismisses base limits before (record { space = space; rooms = named; excepted = excepted; ended = ended; told = told }) ks messages
    planned messages are ended ids told rising = record {
      right = record { ended = subst (ListsSockets sid_of hits (sockets base before)) (sym ids) ended-right; told = told-right messages are told rising };
      matching = lists;
      farewells = are ∙ (λ i. messages_for (λ c. clients c i) (farewell limits space) ks);
    }

-- what the lists make is the dismissal that is asked for
pub dismissal-is : (h : History) (d : PlainDismissal) → RightDismissal h.base h.limits h.journal d → d ≡ dismissal h d.space d.rooms d.excepted
dismissal-is h d right i = record {
  space = d.space;
  rooms = d.rooms;
  excepted = d.excepted;
  ended = listed sid_of (matches h.base h.journal d.space d.rooms d.excepted) (sockets h.base h.journal) d.ended right.ended i;
  told = listed client_of (may_hear h.base h.limits h.journal d.space d.rooms d.excepted) (sockets h.base h.journal) d.told right.told i;
}

-- ---- the loop over the sockets that end

filter-twice : {A : Type 0} (t : A → Bool) (xs : List A) → filter t (filter t xs) ≡ filter t xs
filter-twice t [] = refl
filter-twice t (x ∷ xs) = on (t x) refl (filter-twice t xs)
  where
    on : (b : Bool) → t x ≡ b → filter t (filter t xs) ≡ filter t xs → filter t (if b then x ∷ filter t xs else filter t xs) ≡ (if b then x ∷ filter t xs else filter t xs)
    on true e rest = rw e (ap (λ l. x ∷ l) rest)
    on false e rest = rest

-- one more socket is taken out of its client's list
pub dropped-next : (place : ℕ) (k : Socket) (i : ℕ) (ks : List Socket) (was mid new : ℕ → Option PlainClient) → i < length ks → k ≡ slice_index_or ks i k
    → ((q : ℕ) → mid q ≡ (if list_any (λ (k : Socket). k.client == q) (take i ks) then option_map (without_place place) (was q) else was q))
    → ((q : ℕ) → new q ≡ (if k.client == q then option_map (without_place place) (mid q) else mid q))
    → (q : ℕ) → new q ≡ (if list_any (λ (k : Socket). k.client == q) (take (i + 1) ks) then option_map (without_place place) (was q) else was q)
dropped-next place k i ks was mid new lt is first second q =
    second q ∙ ap (λ o. if k.client == q then option_map (without_place place) o else o) (first q)
    ∙ on (k.client == q) (list_any (λ (k : Socket). k.client == q) (take i ks)) (was q)
    ∙ ap (λ (l : Socket). if (l.client == q || list_any (λ (k : Socket). k.client == q) (take i ks)) then option_map (without_place place) (was q) else was q) is
    ∙ ap (λ b. if b then option_map (without_place place) (was q) else was q) (sym (any-next (λ (k : Socket). k.client == q) k i ks lt))
    ∙ ap (λ n. if list_any (λ (k : Socket). k.client == q) (take n ks) then option_map (without_place place) (was q) else was q) (sym (add-one i))
  where
    on : (a b : Bool) (o : Option PlainClient) → (if a then option_map (without_place place) (if b then option_map (without_place place) o else o) else (if b then option_map (without_place place) o else o))
        ≡ (if a || b then option_map (without_place place) o else o)
    on true true None = refl
    on true true (Some x) = ap (λ l. Some (record x { sockets = l })) (filter-twice (λ (k : Socket). not (k.space == place)) x.sockets)
    on true false o = refl
    on false b o = refl

-- ---- the step

-- the rooms depend on who ended, not on the order
same-rooms : (ks ls : List Socket) (sets : RoomSets) → ((p : Socket → Bool) → list_any p ks ≡ list_any p ls) → without_sockets sets ks ≡ without_sockets sets ls
same-rooms ks ls sets same =
    same_sets (without_sockets sets ks) (without_sockets sets ls)
    (λ s. is_socket-without_sockets ks sets s ∙ ap (λ b. if b then false else is_socket sets s) (same (has_id sid_of s)) ∙ sym (is_socket-without_sockets ls sets s))
    (λ s room. is_in-without_sockets ks sets s room ∙ ap (λ b. not b && is_in sets s room) (same (has_id sid_of s)) ∙ sym (is_in-without_sockets ls sets s room))

-- what is held of a client that lost its socket at a place, if it had one, and was told so
abbrev pub after_dismissal : (place : ℕ) → (lost : Bool) → List Entry → Option PlainClient → Option PlainClient
after_dismissal place lost entries o = if lost then option_map (without_place place) (option_map (with_entries entries) o) else option_map (with_entries entries) o

module _ (base : PlainBase) (limits : Limits) (before : List Step) (d : PlainDismissal) where
  put-is : put base limits before (AllEnded d) ≡ map (λ c. (c, farewell limits d.space)) d.told
  unfolding put
  put-is = refl

  pub puts_dismissed : placed_by base limits before (AllEnded d) ≡ length d.told
  puts_dismissed = ap length put-is ∙ length-map (λ c. (c, farewell limits d.space)) d.told

module _ (base : PlainBase) (limits : Limits) (before : List Step) (sound : IsSound base limits before) (d : PlainDismissal) (ks : List Socket) (messages : List PlainMessage) (makes : Dismisses base limits before d ks messages) where
  abbrev goes : Socket → Bool
  goes k = matches base before d.space d.rooms d.excepted k

  ends-matching : AllByRecursion (λ (k : Socket). ends (AllEnded d) k ≡ goes k) (sockets base before)
  ends-matching =
      all-by (λ (k : Socket). find (has_id sid_of k.sid) (sockets base before) ≡ Some k) (λ (k : Socket). ends (AllEnded d) k ≡ goes k)
      (λ k found.
      sym (λ i. list_any (λ s. unsigned_tied k.sid s i) d.ended)
      ∙ makes.right.ended.exactly k.sid
      ∙ any-at (sockets base before) sound.sockets_apart k.sid goes
      ∙ ap (λ o. option_map_or goes o false) found)
      (sockets base before) (each-found (sockets base before) sound.sockets_apart)

  any-ended : (p : Socket → Bool) → list_any p ks ≡ list_any p (ended_by base before (AllEnded d))
  any-ended p =
      makes.matching.exactly p
      ∙ sym (any-filter p (ends (AllEnded d)) (sockets base before)
      ∙ any-same (λ (k : Socket). ends (AllEnded d) k ≡ goes k) (λ (k : Socket). p k && ends (AllEnded d) k) (λ (k : Socket). p k && goes k) (λ k e. ap (λ b. p k && b) e) (sockets base before) ends-matching)

  abbrev lost : ℕ → Bool
  lost q = list_any (λ (k : Socket). k.client == q) ks

  -- of a client's sockets, one that ended is the one at the place
  lost-there : (q : ℕ) → AllByRecursion (λ (k : Socket). (k.client == q) ≡ true → not (ends (AllEnded d) k) ≡ (if lost q then not (k.space == d.space) else true)) (sockets base before)
  lost-there q =
      all-by (λ (k : Socket). (ends (AllEnded d) k ≡ goes k) × ((k.space == d.space) ≡ true → list_any (is_there d.space inside k.client) (sockets base before) ≡ inside k))
      (λ (k : Socket). (k.client == q) ≡ true → not (ends (AllEnded d) k) ≡ (if lost q then not (k.space == d.space) else true))
      one (sockets base before)
      (all-both (λ (k : Socket). ends (AllEnded d) k ≡ goes k) (λ (k : Socket). (k.space == d.space) ≡ true → list_any (is_there d.space inside k.client) (sockets base before) ≡ inside k) (sockets base before)
      ends-matching (alone-there d.space inside (sockets base before) sound.sockets_apart))
    where
      inside : Socket → Bool
      inside k = broadcast.is_addressed (rooms base before) d.rooms d.excepted k.sid

      one : (k : Socket) → (ends (AllEnded d) k ≡ goes k) × ((k.space == d.space) ≡ true → list_any (is_there d.space inside k.client) (sockets base before) ≡ inside k)
          → (k.client == q) ≡ true → not (ends (AllEnded d) k) ≡ (if lost q then not (k.space == d.space) else true)
      one k h of = on (k.space == d.space) refl
        where
          yes : (b : Bool) → not b ≡ (if b then not true else true)
          yes true = refl
          yes false = refl

          no : (b : Bool) → true ≡ (if b then not false else true)
          no true = refl
          no false = refl

          on : (b : Bool) → (k.space == d.space) ≡ b → not (ends (AllEnded d) k) ≡ (if lost q then not b else true)
          on true here =
              let ended : ends (AllEnded d) k ≡ inside k = h.0 ∙ ap (λ b. b && inside k) here in
              let went : lost q ≡ inside k = makes.matching.exactly (λ (k : Socket). k.client == q) ∙ ap (λ c. list_any (is_there d.space inside c) (sockets base before)) (sym (eqb-true k.client q of)) ∙ h.1 here in
              rw (ended, went) (yes (inside k))
          on false here =
              let stays : ends (AllEnded d) k ≡ false = h.0 ∙ ap (λ b. b && inside k) here in
              rw stays (no (lost q))

  of-dismissed : (at q : ℕ) → sockets_of base (record { at = at; what = AllEnded d } ∷ before) q ≡ (if lost q then filter (λ (k : Socket). not (k.space == d.space)) (sockets_of base before q) else sockets_of base before q)
  unfolding sockets_of
  of-dismissed at q =
      ap (filter (λ (k : Socket). k.client == q)) (sockets-ended base limits (record { at = at; what = AllEnded d }) before refl)
      ∙ filter-swap (λ (k : Socket). k.client == q) (λ (k : Socket). not (ends (AllEnded d) k)) (sockets base before)
      ∙ filter-agree q (λ (k : Socket). not (ends (AllEnded d) k)) (λ (k : Socket). if lost q then not (k.space == d.space) else true) (sockets base before) (lost-there q)
      ∙ on (lost q)
    where
      on : (b : Bool) → filter (λ (k : Socket). if b then not (k.space == d.space) else true) (filter (λ (k : Socket). k.client == q) (sockets base before))
          ≡ (if b then filter (λ (k : Socket). not (k.space == d.space)) (filter (λ (k : Socket). k.client == q) (sockets base before)) else filter (λ (k : Socket). k.client == q) (sockets base before))
      on true = refl
      on false = filter-all (λ k. true) (filter (λ (k : Socket). k.client == q) (sockets base before)) (λ k. refl)

  client-dismissed : (at : ℕ) → IsLegal base limits before → (q : ℕ)
      → client_at base limits (record { at = at; what = AllEnded d } ∷ before) q ≡ after_dismissal d.space (lost q) (entries_for q (put base limits before (AllEnded d))) (client_at base limits before q)
  client-dismissed at legal q =
      let step : Step = record { at = at; what = AllEnded d } in
      rw (is_open-quiet base step before refl (λ c. refl) q, of-dismissed at q, waiting-step base limits step before legal q refl) (on (is_open base before q) (lost q))
    where
      es : List Entry
      es = entries_for q (put base limits before (AllEnded d))

      on : (o l : Bool) → (if o then Some (record { sockets = if l then filter (λ (k : Socket). not (k.space == d.space)) (sockets_of base before q) else sockets_of base before q; outbox = record { waiting = waiting base limits before q ++ es; capacity = limits.capacity; bytes = limits.bytes } }) else None)
          ≡ after_dismissal d.space l es (if o then Some (record { sockets = sockets_of base before q; outbox = record { waiting = waiting base limits before q; capacity = limits.capacity; bytes = limits.bytes } }) else None)
      on true true = refl
      on true false = refl
      on false true = refl
      on false false = refl

  puts-known : AllByRecursion (λ (p : ℕ × Entry). is_open base before p.0 ≡ true) (put base limits before (AllEnded d))
  puts-known =
      subst (AllByRecursion (λ (p : ℕ × Entry). is_open base before p.0 ≡ true)) (sym (put-is base limits before d))
      (paired d.told
      (all-passes (is_open base before) d.told
      (any-listed client_of (may_hear base limits before d.space d.rooms d.excepted) (sockets base before) d.told makes.right.told (λ c. not (is_open base before c))
      ∙ none-passes (λ (k : Socket). is_open base before k.client ≡ true) (λ (k : Socket). may_hear base limits before d.space d.rooms d.excepted k && not (is_open base before k.client))
      (λ k known. shut (may_hear base limits before d.space d.rooms d.excepted k) (is_open base before k.client) known) (sockets base before) sound.of_open_clients)))
    where
      shut : (a b : Bool) → b ≡ true → (a && not b) ≡ false
      shut true b e = ap not e
      shut false b e = refl

      paired : (cs : List ℕ) → AllByRecursion (λ c. is_open base before c ≡ true) cs → AllByRecursion (λ (p : ℕ × Entry). is_open base before p.0 ≡ true) (map (λ c. (c, farewell limits d.space)) cs)
      paired [] h = tt
      paired (c ∷ cs) h = (h.0, paired cs h.1)

  -- what is put is for the clients that hear of it
  entries-are : (q : ℕ) → entries_for q (map pair_of messages) ≡ entries_for q (put base limits before (AllEnded d))
  entries-are q =
      entries-told base limits before sound d.space d.rooms d.excepted ks makes.matching (client_at base limits before) (λ c. refl) messages makes.farewells d.told makes.right.told q
      ∙ ap (entries_for q) (sym (put-is base limits before d))

  -- the rooms know the sockets that go
  pub goers-known : (sets : RoomSets) → sets ≡ rooms base before → AllByRecursion (λ (k : Socket). is_socket sets k.sid ≡ true) ks
  goers-known sets same =
      all-matching base limits before sound d.space d.rooms d.excepted ks makes.matching (λ (k : Socket). is_socket sets k.sid) (all-known base limits before sets sound same)

  accepted : is_space limits d.space ≡ true → is_spent base limits before (AllEnded d) ≡ false → or_spent (space_refusal limits d.space) (is_spent base limits before (AllEnded d)) ≡ None
  accepted known room = rw (known, room) refl

  clients-after : (at : ℕ) → IsLegal base limits before → (find mid find' : ℕ → Option PlainClient) → ((c : ℕ) → find c ≡ client_at base limits before c)
      → ((q : ℕ) → mid q ≡ option_map (with_entries (entries_for q (map pair_of messages))) (find q))
      → ((q : ℕ) → find' q ≡ (if lost q then option_map (without_place d.space) (mid q) else mid q))
      → (q : ℕ) → find' q ≡ client_at base limits (record { at = at; what = AllEnded d } ∷ before) q
  clients-after at legal find mid find' clients puts drops q =
      drops q
      ∙ ap (λ o. if lost q then option_map (without_place d.space) o else o) (puts q)
      ∙ (λ i. after_dismissal d.space (lost q) (entries-are q i) (clients q i))
      ∙ sym (client-dismissed at legal q)

  pub dismissed : (now newest : ℕ) (find mid find' : ℕ → Option PlainClient) (seat seat' : ℕ → Option Socket) (is_pid is_pid' : ℕ → Bool) (sets sets' : RoomSets) (table : TableContents) (packets : LogContents) (counts : Counts)
      → IsHub base limits find seat is_pid sets table packets newest counts before
      → is_space limits d.space ≡ true → is_spent base limits before (AllEnded d) ≡ false
      → ((q : ℕ) → mid q ≡ option_map (with_entries (entries_for q (map pair_of messages))) (find q))
      → ((q : ℕ) → find' q ≡ (if lost q then option_map (without_place d.space) (mid q) else mid q))
      → ((s : ℕ) → seat' s ≡ (if list_any (λ (k : Socket). k.sid == s) ks then None else seat s))
      → ((p : ℕ) → is_pid' p ≡ (if list_any (λ (k : Socket). k.pid == p) ks then false else is_pid p))
      → sets' ≡ without_sockets sets ks → AreConsistent sets'
      → IsHub base limits find' seat' is_pid' sets' table packets (max now newest) (record { commands = counts.commands + 1; placed = counts.placed + length d.told; dropped = counts.dropped + 0; taken = counts.taken + 0; discarded = counts.discarded + 0 }) (record { at = max now newest; what = AllEnded d } ∷ before)
  dismissed now newest find mid find' seat seat' is_pid is_pid' sets sets' table packets counts was known room puts drops seats pids left consistent =
      let step : Step = record { at = max now newest; what = AllEnded d } in
      let late : moment base before ≤ max now newest = rw (← was.0.last) (omega arith) in
      let later : newest ≤ max now newest = omega arith in
      let leaves : LeavesBacklog base limits step before = record { same_sessions = refl; no_call = refl; unused = refl } in
      let fine : IsAllowed base limits before step step.what = (accepted known room, makes.right) in
      let gone : List Socket = ended_by base before (AllEnded d) in
      let change : sets' ≡ without_sockets sets gone = left ∙ same-rooms ks gone sets any-ended in
      let agree : AreConsistent (without_sockets (rooms base before) gone) = subst AreConsistent (change ∙ ap (λ v. without_sockets v gone) was.0.rooms_are) consistent in
      let flows = flow-quiet base limits step before was.1 fine was.2.clients_once refl (λ c. refl) (λ c. refl) puts-known (sum-zero (λ c. taken_by c (AllEnded d)) (open_clients base before) (λ c e. refl)) in (
        ended-fields base limits step before refl find find' seat seat' is_pid is_pid' sets sets' table table packets newest was.0 was.2.sockets_apart
            (clients-after (max now newest) was.1 find mid find' was.0.clients puts drops)
            gone refl
            (λ s. seats s ∙ ap (λ b. if b then None else seat s) (any-ended (has_id sid_of s)))
            (λ p. pids p ∙ ap (λ b. if b then false else is_pid p) (any-ended (has_id pid_of p)))
            change (table-quiet base limits step before table leaves was.0.saved_is) (packets-quiet base limits step before packets leaves was.0.log_is) later,
        legal-step base limits step before fine late was.1,
        ended-sound base limits step before refl was.2
            (subst (IsDistinct nat_eq) (sym (clients-quiet base step before refl (λ c. refl))) was.2.clients_once)
            (λ l opened stays. is_open-quiet base step before refl (λ c. refl) l.client ∙ opened)
            refl agree
            (subst (AllByRecursion (IsAway (sockets base (step ∷ before)))) (sym (sessions-quiet base limits step before leaves)) (away-ended base limits step before refl (sessions base limits before) was.2.apart))
            (backlog-quiet base limits step before leaves late was.2)
            (conserved-step base limits step before was.2.conserved (omega (arith, flows))),
        counted base limits before counts was.3 was.2.conserved step (length d.told) 0 0 0 (puts_dismissed base limits before d) refl refl refl,
      )

  pub can_dismiss : (counts : Counts) → Counted base limits counts before → is_spent base limits before (AllEnded d) ≡ false → CanCount counts (length d.told) 0 0 0
  can_dismiss counts was room = can base limits before counts was sound.conserved (AllEnded d) (length d.told) 0 0 0 (puts_dismissed base limits before d) refl refl refl room

-- ---- what is said and answered

pub farewell_is : (limits : Limits) (place : ℕ) → record { text = disconnect_text (get_or limits.spaces place []); attachments = [] } ≡ farewell limits place
unfolding farewell
farewell_is limits place = refl
