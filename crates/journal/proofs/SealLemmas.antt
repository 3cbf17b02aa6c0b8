-- A base that says what the old base and journal say: all that was so of the hub is so with it and no steps.
use Rattle.std.proofs.Common.{◌≡◌, ℕ, ◌^◌, ◌≤◌, ◌==◌, Bool, true, false, ◌||◌, List, [], ◌∷◌, ◌++◌, length, map, reverse, refl, sym, ◌∙◌, ap, subst, arith, if◌then◌else◌, Option, None, Some, nat_eq, nat_lt}
use Rattle.std.specs.Prelude.{is_some}
use Rattle.std.specs.List.{list_any, find, flat_map, sum_by, IsDistinct, AllByRecursion}
use Rattle.std.specs.Option.{option_map_or}
use Rattle.std.specs.Set.{is_member}
use Rattle.std.specs.Map.{keys_of, lookup}
use Rattle.std.specs.Ordering.{nat_cmp, eq_by_cmp, is_eq}
use Rattle.std.specs.Cmp.{nat_cmp_total, unsigned_tied, tied_itself, eq_by_cmp_equiv}
use Rattle.std.specs.FinSet as set
use Rattle.std.specs.FinSet.{nat_cmp-IsAntisymmetric, contains-from_list, same_set}
use Rattle.std.proofs.lemmas.Bool.{eqb-true}
use Rattle.std.proofs.lemmas.Bool.Decides.{nat_tests}
use Rattle.std.proofs.lemmas.Cmp.{nat_eq_equiv}
use Rattle.std.proofs.lemmas.List.{reverse-reverse}
use Rattle.std.proofs.lemmas.Map.Keys.{IsDistinct-from_sorted}
use Rattle.std.proofs.lemmas.Map.Made.{is_some-lookup}
use Rattle.terms.specs.Listing.{ListsRising}
use Rattle.room_maps.specs.Membership.{RoomSets, is_socket, AreConsistent, are_too_many}
use Rattle.room_maps.proofs.OrderLemmas.{pair_cmp_total, pair_cmp-IsAntisymmetric}
use Rattle.recovery.specs.PacketLog.{LogContents, Pushed, IsRun, Rises, latest, fits, unswept, kept, number_of, offset_at}
use Rattle.recovery.proofs.LatestLemmas.{newest_fits}
use Rattle.recovery.specs.SavedTable.{TableContents, PlainSaved}
use Rattle.journal.specs.declared.socket.Socket.{Socket}
use Rattle.journal.specs.declared.step.Step.{Step}
use Rattle.journal.specs.declared.totals.Counts.{Counts}
use Rattle.journal.specs.declared.totals.Totals.{Totals}
use Rattle.journal.specs.Plain.{Limits, PlainBase, PlainBaseClient, PlainClient}
use Rattle.journal.specs.Journal.{moment, total}
use Rattle.journal.specs.Membership.{open_clients, is_open, base_sockets, sockets, socket_with, sid_of, pid_of, has_id, sockets_of, rooms, is_space}
use Rattle.journal.specs.Sessions.{sessions}
use Rattle.journal.specs.Log.{log_calls, log, next_number, next}
use Rattle.journal.specs.Outboxes.{base_waiting, placements, taken, waiting}
use Rattle.journal.specs.Totals as counted
use Rattle.journal.specs.Totals.{handed_out, waiting_in_all, totals}
use Rattle.journal.specs.Legal.{EachTwo, AreApart, IsAway, DifferInIds, IsSound, IsLegal}
use Rattle.journal.specs.Fields.{Fields, Counted, client_at}
use Rattle.journal.specs.Seal.{ids_of, client_of, base_of, base_at, base_client, LeadsTo, SaysTheSame}
use Rattle.journal.proofs.SumsLemmas.{sum-same, sum-members}
use Rattle.journal.proofs.SessionsLemmas.{is_some-find}
use Rattle.journal.proofs.EndLemmas.{DifferBy, sids-differ, pids-differ}
use Rattle.journal.proofs.CastLemmas.{any-map}
use Rattle.journal.proofs.CommandLemmas.{IsHub, some_if}
use Rattle.journal.proofs.SealListsLemmas.{all-to, of_client, by_clients, AreOf, all-by_clients, any-by_clients, same-of_client, apart-by_clients, same-found, reverse-map, kept-pushes, kept-rises, pushes_of}

-- ---- the copies of the clients

-- what is so of all that a list has is so of each of its elements
each-among : (test : ℕ → Bool) (cs : List ℕ) → ((c : ℕ) → list_any (eq_by_cmp nat_cmp c) cs ≡ true → test c ≡ true) → AllByRecursion (λ c. test c ≡ true) cs
each-among test [] so = tt
each-among test (c ∷ cs) so = (
  so c (let itself : eq_by_cmp nat_cmp c c ≡ true = ap is_eq (tied_itself nat_cmp_total c) in rw itself refl),
  each-among test cs (λ d among. so d (ap (λ b. eq_by_cmp nat_cmp d c || b) among ∙ either (eq_by_cmp nat_cmp d c))),
)
  where
    either : (b : Bool) → (b || true) ≡ true
    either true = refl
    either false = refl

module _ (base : PlainBase) (limits : Limits) (journal : List Step) (known : ℕ → Option PlainClient) (finds : (c : ℕ) → known c ≡ client_at base limits journal c)
    (ids : List ℕ) (listed : ListsRising nat_cmp (λ c. is_some (known c)) ids) where
  ids-kept : (cs : List ℕ) → map client_of (map (base_client base limits journal) cs) ≡ cs
  ids-kept [] = refl
  ids-kept (c ∷ cs) = ap (λ ds. c ∷ ds) (ids-kept cs)

  each-copied : (cs : List ℕ) → AllByRecursion (λ c. is_some (known c) ≡ true) cs → flat_map (λ c. base_at c (known c)) cs ≡ map (base_client base limits journal) cs
  each-copied [] all = refl
  each-copied (c ∷ cs) all = on (known c) refl all.0 (each-copied cs all.1)
    where
      on : (o : Option PlainClient) → known c ≡ o → is_some o ≡ true → flat_map (λ c. base_at c (known c)) cs ≡ map (base_client base limits journal) cs
          → flat_map (λ c. base_at c (known c)) (c ∷ cs) ≡ map (base_client base limits journal) (c ∷ cs)
      on None is some rest = absurd (cc some)
      on (Some x) is some rest = rw is (λ i. base_of (c, some_if (is_open base journal c) x _ (sym is ∙ finds c) i) ∷ rest i)

  copied-all : (copies : List PlainBaseClient) → copies ≡ flat_map (λ c. base_at c (known c)) ids → copies ≡ map (base_client base limits journal) ids
  copied-all copies is = is ∙ each-copied ids (each-among (λ c. is_some (known c)) ids (λ c among. sym (listed.exactly c) ∙ among))

  pub copied-open : (copies : List PlainBaseClient) → copies ≡ flat_map (λ c. base_at c (known c)) ids → ListsRising nat_cmp (is_open base journal) (map client_of copies)
  copied-open copies is =
      subst (ListsRising nat_cmp (is_open base journal)) (sym (ap (map client_of) (copied-all copies is) ∙ ids-kept ids))
      (record { rises = listed.rises; exactly = λ c. listed.exactly c ∙ ap is_some (finds c) ∙ so (is_open base journal c) _ })
    where
      so : (b : Bool) (x : PlainClient) → is_some (if b then Some x else None) ≡ b
      so true x = refl
      so false x = refl

  pub copied-are : (copies : List PlainBaseClient) → copies ≡ flat_map (λ c. base_at c (known c)) ids → copies ≡ map (base_client base limits journal) (map client_of copies)
  copied-are copies is = copied-all copies is ∙ ap (map (base_client base limits journal)) (sym (ap (map client_of) (copied-all copies is) ∙ ids-kept ids))

-- ---- the new base

-- an offset that there is none of is so after it was read back
renumbered : (n : ℕ) → offset_at (number_of (offset_at n)) ≡ offset_at n
renumbered n = on (nat_lt n (2 ^ 64)) refl
  where
    on : (b : Bool) → nat_lt n (2 ^ 64) ≡ b → offset_at (number_of (if b then Some n else None)) ≡ (if b then Some n else None)
    on true e = rw e refl
    on false e = refl

-- what a base says with no steps
module _ (limits : Limits) (b : PlainBase) where
  sockets-at : sockets b [] ≡ flat_map base_sockets b.clients
  unfolding sockets
  sockets-at = refl

  sessions-at : sessions b limits [] ≡ b.saved
  unfolding sessions
  sessions-at = refl

  calls-at : log_calls b limits [] ≡ reverse (map Pushed b.log)
  unfolding log_calls
  calls-at = refl

  moment-at : moment b [] ≡ b.at
  unfolding moment
  moment-at = refl

  number-at : next_number b [] ≡ number_of b.next
  unfolding next_number total
  number-at = refl

  commands-at : counted.commands b [] ≡ b.totals.commands
  unfolding counted.commands
  commands-at = omega arith

  placed-at : counted.placed b limits [] ≡ b.totals.placed
  unfolding counted.placed total
  placed-at = refl

  dropped-at : counted.dropped b [] ≡ b.totals.dropped
  unfolding counted.dropped total
  dropped-at = refl

  taken-at : handed_out b [] ≡ b.totals.taken
  unfolding handed_out total
  taken-at = refl

  discarded-at : counted.discarded b limits [] ≡ b.totals.discarded
  unfolding counted.discarded total
  discarded-at = refl

module _ (base : PlainBase) (limits : Limits) (journal : List Step) (after : PlainBase) (was : IsSound base limits journal) (leads : LeadsTo base limits journal after) where
  abbrev ids : List ℕ
  ids = map client_of after.clients

  ids-once : IsDistinct nat_eq ids
  ids-once = subst (λ e. IsDistinct e ids) (λ i x y. unsigned_tied x y i) (IsDistinct-from_sorted nat_cmp ids leads.clients_open.rises)

  ids-open : (c : ℕ) → is_member nat_eq ids c ≡ is_open base journal c
  ids-open c = sym (λ i. list_any (λ k. unsigned_tied c k i) ids) ∙ leads.clients_open.exactly c

  clients-are : open_clients after [] ≡ ids
  unfolding open_clients
  clients-are = refl

  is_open-member : (h : PlainBase) (steps : List Step) (c : ℕ) → is_open h steps c ≡ is_member nat_eq (open_clients h steps) c
  unfolding is_open
  is_open-member h steps c = refl

  open-same : (c : ℕ) → is_open after [] c ≡ is_open base journal c
  open-same c = is_open-member after [] c ∙ ap (λ l. is_member nat_eq l c) clients-are ∙ ids-open c

  -- the sockets stand by their clients

  known : AreOf ids (sockets base journal)
  known = all-to (λ (k : Socket). is_open base journal k.client ≡ true) (λ (k : Socket). is_member nat_eq ids k.client ≡ true) (λ k e. ids-open k.client ∙ e) (sockets base journal) was.of_open_clients

  abbrev read : ℕ → List Socket → List Socket
  read c ls = map (λ (t : ℕ × ℕ × ℕ). record { client = c; space = t.0; sid = t.1; pid = t.2 }) (map ids_of ls)

  read-back : (c : ℕ) (ks : List Socket) → read c (of_client ks c) ≡ of_client ks c
  read-back c [] = refl
  read-back c (k ∷ ks) = on (k.client == c) refl (read-back c ks)
    where
      on : (b : Bool) → (k.client == c) ≡ b → read c (of_client ks c) ≡ of_client ks c → read c (if b then k ∷ of_client ks c else of_client ks c) ≡ (if b then k ∷ of_client ks c else of_client ks c)
      on true e ih = let same = eqb-true k.client c e in λ i. record { client = sym same i; space = k.space; sid = k.sid; pid = k.pid } ∷ ih i
      on false e ih = ih

  rows : (cs : List ℕ) → flat_map base_sockets (map (base_client base limits journal) cs) ≡ by_clients (sockets base journal) cs
  unfolding sockets_of
  rows [] = refl
  rows (c ∷ cs) = λ i. read-back c (sockets base journal) i ++ rows cs i

  sockets-are : sockets after [] ≡ by_clients (sockets base journal) ids
  sockets-are = sockets-at limits after ∙ ap (flat_map base_sockets) leads.clients_are ∙ rows ids

  all-sockets : (P : Socket → Type 0) → AllByRecursion P (sockets base journal) → AllByRecursion P (sockets after [])
  all-sockets P h = subst (AllByRecursion P) (sym sockets-are) (all-by_clients (sockets base journal) P ids h)

  any-sockets : (p : Socket → Bool) → list_any p (sockets after []) ≡ list_any p (sockets base journal)
  any-sockets p = ap (list_any p) sockets-are ∙ any-by_clients (sockets base journal) p ids known

  of-same : (c : ℕ) → sockets_of after [] c ≡ sockets_of base journal c
  unfolding sockets_of
  of-same c = ap (λ ks. of_client ks c) sockets-are ∙ same-of_client (sockets base journal) ids ids-once known c

  with-same : (id : Socket → ℕ) → EachTwo (DifferBy id) (sockets base journal) → (x : ℕ) → socket_with id after [] x ≡ socket_with id base journal x
  unfolding socket_with
  with-same id differ x = ap (find (has_id id x)) sockets-are ∙ same-found (sockets base journal) id x ids differ known

  by-sid : (s : ℕ) → socket_with sid_of after [] s ≡ socket_with sid_of base journal s
  by-sid = with-same sid_of (sids-differ (sockets base journal) was.sockets_apart)

  by-pid : (p : ℕ) → socket_with pid_of after [] p ≡ socket_with pid_of base journal p
  by-pid = with-same pid_of (pids-differ (sockets base journal) was.sockets_apart)

  -- what waits

  client-found : (c : ℕ) (cs : List ℕ) → is_member nat_eq cs c ≡ true → find (λ (b : PlainBaseClient). b.client == c) (map (base_client base limits journal) cs) ≡ Some (base_client base limits journal c)
  client-found c [] e = absurd (cc e)
  client-found c (d ∷ cs) e = on (client-found c cs) (d == c) refl
    where
      on : (is_member nat_eq cs c ≡ true → find (λ (b : PlainBaseClient). b.client == c) (map (base_client base limits journal) cs) ≡ Some (base_client base limits journal c)) → (b : Bool) → (d == c) ≡ b
          → (if b then Some (base_client base limits journal d) else find (λ (b : PlainBaseClient). b.client == c) (map (base_client base limits journal) cs)) ≡ Some (base_client base limits journal c)
      on rest true is = ap (λ z. Some (base_client base limits journal z)) (eqb-true d c is)
      on rest false is = rest (grind (arith, nat_tests, e, is))

  at-base-waits : (b : PlainBase) (c : ℕ) → waiting b limits [] c ≡ base_waiting b c
  unfolding waiting taken placements
  at-base-waits b c = refl

  waits-same : (c : ℕ) → is_open base journal c ≡ true → waiting after limits [] c ≡ waiting base limits journal c
  waits-same c e =
      at-base-waits after c
      ∙ ap (λ l. option_map_or (λ (b : PlainBaseClient). b.waiting) (find (λ (b : PlainBaseClient). b.client == c) l) []) leads.clients_are
      ∙ ap (λ o. option_map_or (λ (b : PlainBaseClient). b.waiting) o []) (client-found c ids (ids-open c ∙ e))

  client-same : (c : ℕ) → client_at after limits [] c ≡ client_at base limits journal c
  client-same c = on (is_open base journal c) refl
    where
      on : (b : Bool) → is_open base journal c ≡ b → client_at after limits [] c ≡ client_at base limits journal c
      on true e = rw (open-same c, e, of-same c, waits-same c e) refl
      on false e = rw (open-same c, e) refl

  -- rooms

  sids-same : (s : ℕ) → list_any (λ (k : Socket). eq_by_cmp nat_cmp s k.sid) (sockets base journal) ≡ is_socket (rooms base journal) s
  unfolding socket_with
  sids-same s =
      ap (λ p. list_any p (sockets base journal)) (λ i (k : Socket). (unsigned_tied s k.sid ∙ nat_eq_equiv.symm s k.sid) i)
      ∙ sym (is_some-find (has_id sid_of s) (sockets base journal))
      ∙ sym (was.seated s)

  rooms-at-base : (b : PlainBase) → rooms b [] ≡ record { sockets = set.from_list (map sid_of (sockets b [])); pairs = set.from_list b.pairs }
  unfolding rooms
  rooms-at-base b = refl

  same-sids : set.from_list (map sid_of (sockets after [])) ≡ (rooms base journal).sockets
  same-sids = same_set nat_cmp_total nat_cmp-IsAntisymmetric _ _ (λ s.
      contains-from_list nat_cmp_total (map sid_of (sockets after [])) s
      ∙ any-map (eq_by_cmp nat_cmp s) sid_of (sockets after [])
      ∙ any-sockets (λ (k : Socket). eq_by_cmp nat_cmp s k.sid)
      ∙ sids-same s)

  same-pairs : set.from_list after.pairs ≡ (rooms base journal).pairs
  same-pairs = same_set pair_cmp_total pair_cmp-IsAntisymmetric _ _ (λ p. contains-from_list pair_cmp_total after.pairs p ∙ leads.pairs_are.exactly p)

  rooms-same : rooms after [] ≡ rooms base journal
  rooms-same = rooms-at-base after ∙ (λ i. record { sockets = same-sids i; pairs = same-pairs i })

  -- sessions and the log

  sessions-same : sessions after limits [] ≡ sessions base limits journal
  sessions-same = sessions-at limits after ∙ leads.saved_is

  calls-are : log_calls after limits [] ≡ pushes_of (log base limits journal)
  calls-are = calls-at limits after ∙ ap (λ es. reverse (map Pushed es)) leads.log_is ∙ reverse-map Pushed (log base limits journal)

  log-by-calls : (b : PlainBase) (steps : List Step) → log b limits steps ≡ kept limits.log limits.log_bytes (log_calls b limits steps)
  unfolding log
  log-by-calls b steps = refl

  log-fits : fits limits.log limits.log_bytes (reverse (reverse (log base limits journal))) ≡ true
  unfolding log
  log-fits = rw (reverse-reverse (log base limits journal)) (newest_fits limits.log limits.log_bytes (unswept [] (log_calls base limits journal)))

  log-same : log after limits [] ≡ log base limits journal
  log-same =
      log-by-calls after []
      ∙ ap (kept limits.log limits.log_bytes) calls-are
      ∙ kept-pushes limits.log limits.log_bytes (reverse (log base limits journal)) log-fits
      ∙ reverse-reverse (log base limits journal)

  risen : Rises (pushes_of (log base limits journal)) × (latest (pushes_of (log base limits journal)) ≤ latest (log_calls base limits journal))
  unfolding log
  risen = kept-rises limits.log limits.log_bytes (log_calls base limits journal) was.log_rises

  moment-same : moment after [] ≡ moment base journal
  moment-same = moment-at limits after ∙ leads.at_is

  number-is : next_number after [] ≡ number_of (next base journal)
  number-is = number-at limits after ∙ ap number_of leads.next_is

  next-same : next after [] ≡ next base journal
  next-same = ap offset_at number-is ∙ renumbered (next_number base journal)

  -- totals

  commands-same : counted.commands after [] ≡ counted.commands base journal
  commands-same = commands-at limits after ∙ ap (λ (t : Totals). t.commands) leads.totals_are

  placed-same : counted.placed after limits [] ≡ counted.placed base limits journal
  placed-same = placed-at limits after ∙ ap (λ (t : Totals). t.placed) leads.totals_are

  dropped-same : counted.dropped after [] ≡ counted.dropped base journal
  dropped-same = dropped-at limits after ∙ ap (λ (t : Totals). t.dropped) leads.totals_are

  taken-same : handed_out after [] ≡ handed_out base journal
  taken-same = taken-at limits after ∙ ap (λ (t : Totals). t.taken) leads.totals_are

  discarded-same : counted.discarded after limits [] ≡ counted.discarded base limits journal
  discarded-same = discarded-at limits after ∙ ap (λ (t : Totals). t.discarded) leads.totals_are

  in-all-by : (b : PlainBase) (steps : List Step) → waiting_in_all b limits steps ≡ sum_by (λ c. length (waiting b limits steps c)) (open_clients b steps)
  unfolding waiting_in_all
  in-all-by b steps = refl

  in-all-same : waiting_in_all after limits [] ≡ waiting_in_all base limits journal
  in-all-same =
      in-all-by after []
      ∙ ap (sum_by (λ c. length (waiting after limits [] c))) clients-are
      ∙ sum-same (λ c. length (waiting after limits [] c)) (λ c. length (waiting base limits journal c)) ids (λ c e. ap length (waits-same c (sym (ids-open c) ∙ e)))
      ∙ sum-members (λ c. length (waiting base limits journal c)) ids (open_clients base journal) ids-once was.clients_once (λ q. ids-open q ∙ is_open-member base journal q)
      ∙ sym (in-all-by base journal)

  totals-same : totals after limits [] ≡ totals base limits journal
  totals-same = λ i. record { commands = commands-same i; placed = placed-same i; dropped = dropped-same i; taken = taken-same i; discarded = discarded-same i; waiting = in-all-same i }

  -- the invariant

  new-fields : (find : ℕ → Option PlainClient) (seat : ℕ → Option Socket) (is_pid : ℕ → Bool) (sets : RoomSets) (table : TableContents) (packets : LogContents) (newest : ℕ)
      → Fields base limits find seat is_pid sets table packets newest journal → Fields after limits find seat is_pid sets table packets newest []
  new-fields find seat is_pid sets table packets newest old = record {
    clients = λ c. old.clients c ∙ sym (client-same c);
    seats = λ s. old.seats s ∙ sym (by-sid s);
    pids = λ p. old.pids p ∙ sym (ap is_some (by-pid p));
    rooms_are = old.rooms_are ∙ sym rooms-same;
    saved_is = old.saved_is ∙ ap (λ l. record { limit = limits.saved; sessions = l }) (sym sessions-same);
    log_is = old.log_is ∙ (λ i. record { limit = limits.log; bytes = limits.log_bytes; next = sym next-same i; last = packets.last; entries = sym log-same i });
    log_last = old.log_last;
    last = old.last ∙ sym moment-same;
  }

  new-sound : IsRun (number_of (next base journal)) (log base limits journal) → IsSound after limits []
  new-sound run = record {
    few_spaces = was.few_spaces;
    clients_once = subst (IsDistinct nat_eq) (sym clients-are) ids-once;
    sockets_apart = subst (EachTwo AreApart) (sym sockets-are) (apart-by_clients (sockets base journal) was.sockets_apart ids ids-once);
    of_open_clients = all-sockets (λ (k : Socket). is_open after [] k.client ≡ true)
        (all-to (λ (k : Socket). is_open base journal k.client ≡ true) (λ (k : Socket). is_open after [] k.client ≡ true) (λ k e. open-same k.client ∙ e) (sockets base journal) was.of_open_clients);
    in_spaces = all-sockets (λ (k : Socket). is_space limits k.space ≡ true) was.in_spaces;
    seated = λ s. ap (λ sets. is_socket sets s) rooms-same ∙ was.seated s ∙ sym (ap is_some (by-sid s));
    rooms_agree = subst AreConsistent (sym rooms-same) was.rooms_agree;
    apart = subst (AllByRecursion (IsAway (sockets after []))) (sym sessions-same)
        (all-to (IsAway (sockets base journal)) (IsAway (sockets after [])) (λ s away. (any-sockets (λ (k : Socket). k.sid == s.sid) ∙ away.0, any-sockets (λ (k : Socket). k.pid == s.pid) ∙ away.1)) (sessions base limits journal) was.apart);
    sessions_differ = subst (EachTwo DifferInIds) (sym sessions-same) was.sessions_differ;
    few_rooms = subst (AllByRecursion (λ (s : PlainSaved). are_too_many s.sid s.rooms ≡ false)) (sym sessions-same) was.few_rooms;
    offsets_rise = subst (λ n. IsRun n (log after limits [])) (sym number-is) (subst (IsRun (number_of (next base journal))) (sym log-same) run);
    log_rises = subst Rises (sym calls-are) risen.0;
    log_late = rw (calls-are, moment-same) (omega (arith, risen.1, was.log_late));
    conserved = rw (placed-same, taken-same, discarded-same, in-all-same) was.conserved;
  }

  new-legal : IsSound after limits [] → IsLegal after limits []
  unfolding IsLegal
  new-legal sound = sound

  new-counts : (counts : Counts) → Counted base limits counts journal → Counted after limits counts []
  new-counts counts old = record {
    commands = old.commands ∙ sym commands-same;
    placed = old.placed ∙ sym placed-same;
    dropped = old.dropped ∙ sym dropped-same;
    taken = old.taken ∙ sym taken-same;
    discarded = old.discarded ∙ sym discarded-same;
  }

  pub says-same : SaysTheSame (record { base = base; limits = limits; journal = journal }) (record { base = after; limits = limits; journal = [] })
  says-same = record {
    same_limits = refl;
    same_moment = moment-same;
    same_open = open-same;
    same_sockets = of-same;
    same_by_sid = by-sid;
    same_by_pid = by-pid;
    same_waiting = waits-same;
    same_rooms = rooms-same;
    same_sessions = sessions-same;
    same_log = log-same;
    same_next = next-same;
    same_totals = totals-same;
  }

pub sealed : (base : PlainBase) (limits : Limits) (journal : List Step) (after : PlainBase) (find : ℕ → Option PlainClient) (seat : ℕ → Option Socket) (is_pid : ℕ → Bool) (sets : RoomSets) (table : TableContents) (packets : LogContents) (newest : ℕ) (counts : Counts)
    → IsHub base limits find seat is_pid sets table packets newest counts journal → LeadsTo base limits journal after → IsRun (number_of (next base journal)) (log base limits journal)
    → IsHub after limits find seat is_pid sets table packets newest counts []
sealed base limits journal after find seat is_pid sets table packets newest counts was leads run =
    let sound = new-sound base limits journal after was.2 leads run in (
      new-fields base limits journal after was.2 leads find seat is_pid sets table packets newest was.0,
      new-legal base limits journal after was.2 leads sound,
      sound,
      new-counts base limits journal after was.2 leads counts was.3,
    )
