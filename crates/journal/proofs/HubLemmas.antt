-- What one more step makes of the fields of a hub.
use Rattle.std.proofs.Common.{◌≡◌, ℕ, ◌+◌, ◌≤◌, ◌==◌, Bool, true, false, ◌||◌, List, [], ◌∷◌, ◌++◌, length, drop, filter, max, refl, sym, ◌∙◌, ap, subst, arith, if◌then◌else◌, Option, None, Some, nat_eq, append-nil}
use Rattle.std.specs.Prelude.{is_some}
use Rattle.std.specs.List.{sum_by, find, IsDistinct, AllByRecursion}
use Rattle.std.specs.Set.{is_member}
use Rattle.std.proofs.lemmas.Bool.{eqb-true, eq-eqb}
use Rattle.std.proofs.lemmas.Bool.Decides.{nat_tests}
use Rattle.std.proofs.lemmas.List.Sums.{sum_by-append}
use Rattle.terms.specs.declared.entry.Entry.{Entry}
use Rattle.room_maps.specs.Membership.{RoomSets, is_socket, AreConsistent}
use Rattle.recovery.specs.PacketLog.{LogContents}
use Rattle.recovery.specs.SavedTable.{TableContents}
use Rattle.journal.specs.declared.socket.Socket.{Socket}
use Rattle.journal.specs.declared.step.Step.{Step}
use Rattle.journal.specs.declared.step.What.TheVariants.{Opened, Told, Took}
use Rattle.journal.specs.Plain.{PlainBase, Limits, PlainClient, PlainMessage}
use Rattle.journal.specs.Journal.{moment}
use Rattle.journal.specs.Membership.{opens, closes, open_clients, is_open, connects, ends, sockets, sid_of, pid_of, sockets_of, rooms, rooms_after, is_space}
use Rattle.journal.specs.Outboxes.{put, entries_for, begins, taken_by, waiting}
use Rattle.journal.specs.Totals.{handed_out_by, discarded_by, waiting_in_all}
use Rattle.journal.specs.Legal.{IsAllowed, IsLegal, IsSound, EachTwo, AreApart}
use Rattle.journal.specs.Fields.{Fields, client_at, new_client, without_first, with_entry}
use Rattle.std.specs.Option.{option_map}
use Rattle.journal.proofs.SumsLemmas.{sum-same, sum-zero}
use Rattle.journal.proofs.MembershipLemmas.{clients-quiet, is_open-quiet, sockets-quiet, sockets_of-quiet, socket_with-quiet, clients-opened, is_open-opened}
use Rattle.journal.proofs.OutboxesLemmas.{waiting-step, waiting-begins, waiting-quiet}
use Rattle.journal.proofs.TotalsLemmas.{conserved-step, flow-quiet, one_of}
use Rattle.journal.proofs.SessionsLemmas.{LeavesBacklog, table-quiet, packets-quiet, backlog-quiet, apart-quiet}

module _ (base : PlainBase) (limits : Limits) where
  pub legal-step : (step : Step) (before : List Step) → IsAllowed base limits before step step.what → moment base before ≤ step.at → IsLegal base limits before
      → IsLegal base limits (step ∷ before)
  unfolding IsLegal
  legal-step step before allowed late legal = (allowed, late, legal)

  pub rooms-step : (step : Step) (before : List Step) (sets sets' : RoomSets) → sets ≡ rooms base before → sets' ≡ rooms_after base before sets step.what → sets' ≡ rooms base (step ∷ before)
  unfolding rooms
  rooms-step step before sets sets' was change = change ∙ ap (λ s. rooms_after base before s step.what) was

  -- a step that connects and ends no socket, and leaves the saved sessions and the log alone
  pub fields-quiet : (step : Step) (before : List Step) (find find' : ℕ → Option PlainClient) (seat : ℕ → Option Socket) (is_pid : ℕ → Bool) (sets sets' : RoomSets) (table : TableContents) (packets : LogContents) (newest : ℕ)
      → Fields base limits find seat is_pid sets table packets newest before
      → connects step.what ≡ [] → ((k : Socket) → ends step.what k ≡ false) → LeavesBacklog base limits step before → newest ≤ step.at
      → sets' ≡ rooms_after base before sets step.what
      → ((c : ℕ) → find' c ≡ client_at base limits (step ∷ before) c)
      → Fields base limits find' seat is_pid sets' table packets step.at (step ∷ before)
  unfolding moment
  fields-quiet step before find find' seat is_pid sets sets' table packets newest was none stay leaves late change clients = record {
    clients = clients;
    seats = λ s. was.seats s ∙ sym (socket_with-quiet base step before sid_of none stay s);
    pids = λ p. was.pids p ∙ sym (ap is_some (socket_with-quiet base step before pid_of none stay p));
    rooms_are = rooms-step step before sets sets' was.rooms_are change;
    saved_is = table-quiet base limits step before table leaves was.saved_is;
    log_is = packets-quiet base limits step before packets leaves was.log_is;
    log_last = omega (arith, was.log_last, late);
    last = refl;
  }

  pub all-open : (step : Step) (before : List Step) → ((c : ℕ) → is_open base before c ≡ true → is_open base (step ∷ before) c ≡ true) → (ks : List Socket)
      → AllByRecursion (λ (k : Socket). is_open base before k.client ≡ true) ks → AllByRecursion (λ (k : Socket). is_open base (step ∷ before) k.client ≡ true) ks
  all-open step before keeps [] h = tt
  all-open step before keeps (k ∷ ks) h = (keeps k.client h.0, all-open step before keeps ks h.1)

  -- a step that opens and closes no client, connects and ends no socket, and leaves the saved sessions and the log alone
  pub sound-quiet : (step : Step) (before : List Step) → IsLegal base limits before → IsAllowed base limits before step step.what → IsSound base limits before → moment base before ≤ step.at
      → opens step.what ≡ [] → ((c : ℕ) → closes step.what c ≡ false) → connects step.what ≡ [] → ((k : Socket) → ends step.what k ≡ false) → ((c : ℕ) → begins c step.what ≡ false)
      → LeavesBacklog base limits step before
      → ((s : ℕ) → is_socket (rooms_after base before (rooms base before) step.what) s ≡ is_socket (rooms base before) s)
      → AreConsistent (rooms_after base before (rooms base before) step.what)
      → AllByRecursion (λ (p : ℕ × Entry). is_open base before p.0 ≡ true) (put base limits before step.what)
      → sum_by (λ c. taken_by c step.what) (open_clients base before) ≡ handed_out_by step.what
      → discarded_by base limits before step.what ≡ 0
      → IsSound base limits (step ∷ before)
  unfolding rooms
  sound-quiet step before legal allowed was late none stay unconnected unended begun leaves seats agree known takes undiscarded =
      let cs = clients-quiet base step before none stay in
      let ks = sockets-quiet base step before unconnected unended in
      let backlog = backlog-quiet base limits step before leaves late was in
      record {
        few_spaces = was.few_spaces;
        clients_once = subst (IsDistinct nat_eq) (sym cs) was.clients_once;
        sockets_apart = subst (EachTwo AreApart) (sym ks) was.sockets_apart;
        of_open_clients = subst (AllByRecursion (λ (k : Socket). is_open base (step ∷ before) k.client ≡ true)) (sym ks)
            (all-open step before (λ c e. is_open-quiet base step before none stay c ∙ e) (sockets base before) was.of_open_clients);
        in_spaces = subst (AllByRecursion (λ (k : Socket). is_space limits k.space ≡ true)) (sym ks) was.in_spaces;
        seated = λ s. seats s ∙ was.seated s ∙ sym (ap is_some (socket_with-quiet base step before sid_of unconnected unended s));
        rooms_agree = agree;
        apart = apart-quiet base limits step before (sockets base before) (sockets base (step ∷ before)) leaves ks was.apart;
        sessions_differ = backlog.sessions_differ;
        few_rooms = backlog.few_rooms;
        offsets_rise = backlog.offsets_rise;
        log_rises = backlog.log_rises;
        log_late = backlog.log_late;
        conserved = conserved-step base limits step before was.conserved
            (let f = flow-quiet base limits step before legal allowed was.clients_once none stay begun known takes in omega (arith, f, undiscarded));
      }

  -- ---- a client is opened

  no_sockets : (d : ℕ) (before : List Step) (ks : List Socket) → is_open base before d ≡ false → AllByRecursion (λ (k : Socket). is_open base before k.client ≡ true) ks → filter (λ (k : Socket). k.client == d) ks ≡ []
  no_sockets d before [] shut h = refl
  no_sockets d before (k ∷ ks) shut h = on (no_sockets d before ks shut h.1) (k.client == d) refl
    where
      on : filter (λ (k : Socket). k.client == d) ks ≡ [] → (b : Bool) → (k.client == d) ≡ b → (if b then k ∷ filter (λ (k : Socket). k.client == d) ks else filter (λ (k : Socket). k.client == d) ks) ≡ []
      on rest true e = let same : k.client ≡ d = eqb-true k.client d e in let known : is_open base before d ≡ true = subst (λ c. is_open base before c ≡ true) same h.0 in cc
      on rest false e = rest

  pub sockets_of-none : (d : ℕ) (before : List Step) → is_open base before d ≡ false → AllByRecursion (λ (k : Socket). is_open base before k.client ≡ true) (sockets base before) → sockets_of base before d ≡ []
  unfolding sockets_of
  sockets_of-none d before shut h = no_sockets d before (sockets base before) shut h

  or-true : (b : Bool) → (b || true) ≡ true
  or-true true = refl
  or-true false = refl

  or-false : (b : Bool) → (b || false) ≡ b
  or-false true = refl
  or-false false = refl

  opened-at : (d at : ℕ) (before : List Step) → IsLegal base limits before → IsSound base limits before → is_open base before d ≡ false → (q : ℕ) (b : Bool) → (d == q) ≡ b
      → client_at base limits (record { at = at; what = Opened d } ∷ before) q ≡ (if b then Some (new_client limits) else client_at base limits before q)
  unfolding put
  opened-at d at before legal sound shut q true e =
      let step : Step = record { at = at; what = Opened d } in
      let same : d ≡ q = eqb-true d q e in
      let known : is_open base (step ∷ before) q ≡ true = is_open-opened base at d before q ∙ ap (λ t. is_open base before q || t) (eq-eqb q d (sym same)) ∙ or-true (is_open base before q) in
      let none : sockets_of base (step ∷ before) q ≡ [] = sockets_of-quiet base step before refl (λ k. refl) q ∙ ap (sockets_of base before) (sym same) ∙ sockets_of-none d before shut sound.of_open_clients in
      let empty : waiting base limits (step ∷ before) q ≡ [] = waiting-begins base limits step before q e in
      rw (known, none, empty) refl
  opened-at d at before legal sound shut q false e =
      let step : Step = record { at = at; what = Opened d } in
      let other : nat_eq q d ≡ false = grind (arith, nat_tests, e) in
      let known : is_open base (step ∷ before) q ≡ is_open base before q = is_open-opened base at d before q ∙ ap (λ t. is_open base before q || t) other ∙ or-false (is_open base before q) in
      let same : sockets_of base (step ∷ before) q ≡ sockets_of base before q = sockets_of-quiet base step before refl (λ k. refl) q in
      let waits : waiting base limits (step ∷ before) q ≡ waiting base limits before q = waiting-quiet base limits step before legal q e refl refl in
      rw (known, same, waits) refl

  pub opened-fields : (d now newest : ℕ) (before : List Step) (find find' : ℕ → Option PlainClient) (seat : ℕ → Option Socket) (is_pid : ℕ → Bool) (sets : RoomSets) (table : TableContents) (packets : LogContents)
      → Fields base limits find seat is_pid sets table packets newest before → IsLegal base limits before → IsSound base limits before → is_open base before d ≡ false
      → ((q : ℕ) → find' q ≡ (if d == q then Some (new_client limits) else find q))
      → Fields base limits find' seat is_pid sets table packets (max now newest) (record { at = max now newest; what = Opened d } ∷ before)
  opened-fields d now newest before find find' seat is_pid sets table packets was legal sound shut puts =
      fields-quiet (record { at = max now newest; what = Opened d }) before find find' seat is_pid sets sets table packets newest was refl (λ k. refl) (record { same_sessions = refl; no_call = refl; unused = refl }) (omega arith) refl
      (λ q. puts q ∙ ap (λ o. if d == q then Some (new_client limits) else o) (was.clients q) ∙ sym (opened-at d (max now newest) before legal sound shut q (d == q) refl))

  pub distinct-push : (d : ℕ) (xs : List ℕ) → IsDistinct nat_eq xs → is_member nat_eq xs d ≡ false → IsDistinct nat_eq (xs ++ d ∷ [])
  unfolding IsDistinct
  distinct-push d [] apart new = (tt, tt)
  distinct-push d (x ∷ xs) apart new = (apart-push xs apart.0 (grind (arith, nat_tests, new)), distinct-push d xs apart.1 (grind (arith, nat_tests, new)))
    where
      apart-push : (ys : List ℕ) → AllByRecursion (λ y. nat_eq x y ≡ false) ys → nat_eq x d ≡ false → AllByRecursion (λ y. nat_eq x y ≡ false) (ys ++ d ∷ [])
      apart-push [] h e = (e, tt)
      apart-push (y ∷ ys) h e = (h.0, apart-push ys h.1 e)

  opened-waits : (d at : ℕ) (before : List Step) → IsLegal base limits before → is_open base before d ≡ false
      → waiting_in_all base limits (record { at = at; what = Opened d } ∷ before) ≡ waiting_in_all base limits before
  unfolding waiting_in_all is_open put
  opened-waits d at before legal shut =
      let step : Step = record { at = at; what = Opened d } in
      let after : ℕ → ℕ = λ c. length (waiting base limits (step ∷ before) c) in
      let cs : List ℕ = open_clients base before in
      let all : sum_by after (open_clients base (step ∷ before)) ≡ sum_by after (cs ++ d ∷ []) = ap (sum_by after) (clients-opened base at d before) in
      let split : sum_by after (cs ++ d ∷ []) ≡ sum_by after cs + sum_by after (d ∷ []) = sum_by-append after cs (d ∷ []) in
      let last : sum_by after (d ∷ []) ≡ 0 = sum-zero after (d ∷ []) (λ c e. let same : (d == c) ≡ true = grind (arith, nat_tests, e) in ap length (waiting-begins base limits step before c same)) in
      let rest : sum_by after cs ≡ sum_by (λ c. length (waiting base limits before c)) cs
      = sum-same after (λ c. length (waiting base limits before c)) cs (λ c e. ap length (waiting-quiet base limits step before legal c (other c e) refl refl)) in
      omega (arith, all, split, last, rest)
    where
      other : (c : ℕ) → is_member nat_eq (open_clients base before) c ≡ true → (d == c) ≡ false
      other c e = on (d == c) refl
        where
          on : (b : Bool) → (d == c) ≡ b → b ≡ false
          on true k = let same : d ≡ c = eqb-true d c k in let there : is_member nat_eq (open_clients base before) d ≡ true = subst (λ z. is_member nat_eq (open_clients base before) z ≡ true) (sym same) e in cc
          on false k = refl

  pub opened-sound : (d at : ℕ) (before : List Step) → IsLegal base limits before → IsSound base limits before → moment base before ≤ at → is_open base before d ≡ false
      → IsSound base limits (record { at = at; what = Opened d } ∷ before)
  unfolding is_open put rooms
  opened-sound d at before legal was late shut =
      let step : Step = record { at = at; what = Opened d } in
      let ks = sockets-quiet base step before refl (λ k. refl) in
      let leaves : LeavesBacklog base limits step before = record { same_sessions = refl; no_call = refl; unused = refl } in
      let backlog = backlog-quiet base limits step before leaves late was in
      record {
        few_spaces = was.few_spaces;
        clients_once = subst (IsDistinct nat_eq) (sym (clients-opened base at d before)) (distinct-push d (open_clients base before) was.clients_once shut);
        sockets_apart = subst (EachTwo AreApart) (sym ks) was.sockets_apart;
        of_open_clients = subst (AllByRecursion (λ (k : Socket). is_open base (step ∷ before) k.client ≡ true)) (sym ks)
            (all-open step before (λ c e. is_open-opened base at d before c ∙ ap (λ b. b || nat_eq c d) e) (sockets base before) was.of_open_clients);
        in_spaces = subst (AllByRecursion (λ (k : Socket). is_space limits k.space ≡ true)) (sym ks) was.in_spaces;
        seated = λ s. was.seated s ∙ sym (ap is_some (socket_with-quiet base step before sid_of refl (λ k. refl) s));
        rooms_agree = was.rooms_agree;
        apart = apart-quiet base limits step before (sockets base before) (sockets base (step ∷ before)) leaves ks was.apart;
        sessions_differ = backlog.sessions_differ;
        few_rooms = backlog.few_rooms;
        offsets_rise = backlog.offsets_rise;
        log_rises = backlog.log_rises;
        log_late = backlog.log_late;
        conserved = conserved-step base limits step before was.conserved (let w = opened-waits d at before legal shut in omega (arith, w));
      }

  -- ---- steps that put and hand out, but open, close, connect and end nothing

  -- what such a step makes of a client
  client_at-step : (step : Step) (before : List Step) → IsLegal base limits before → opens step.what ≡ [] → ((c : ℕ) → closes step.what c ≡ false) → connects step.what ≡ [] → ((k : Socket) → ends step.what k ≡ false) → (q : ℕ) → begins q step.what ≡ false
      → client_at base limits (step ∷ before) q
      ≡ (if is_open base before q then Some (record { sockets = sockets_of base before q; outbox = record { waiting = drop (taken_by q step.what) (waiting base limits before q ++ entries_for q (put base limits before step.what)); capacity = limits.capacity; bytes = limits.bytes } }) else None)
  client_at-step step before legal none stay unconnected unended q begun =
      rw (is_open-quiet base step before none stay q, sockets_of-quiet base step before unconnected unended q, waiting-step base limits step before legal q begun) refl

  took-at : (d m n at : ℕ) (before : List Step) → IsLegal base limits before → (q : ℕ) (b : Bool) → (d == q) ≡ b
      → client_at base limits (record { at = at; what = Took d m n } ∷ before) q ≡ (if b then option_map (without_first n) (client_at base limits before q) else client_at base limits before q)
  unfolding put
  took-at d m n at before legal q true e =
      client_at-step (record { at = at; what = Took d m n }) before legal refl (λ c. refl) refl (λ k. refl) q refl
      ∙ rw (e, append-nil) (on (is_open base before q))
    where
      on : (o : Bool) → (if o then Some (record { sockets = sockets_of base before q; outbox = record { waiting = drop n (waiting base limits before q); capacity = limits.capacity; bytes = limits.bytes } }) else None)
          ≡ option_map (without_first n) (if o then Some (record { sockets = sockets_of base before q; outbox = record { waiting = waiting base limits before q; capacity = limits.capacity; bytes = limits.bytes } }) else None)
      on true = refl
      on false = refl
  took-at d m n at before legal q false e =
      client_at-step (record { at = at; what = Took d m n }) before legal refl (λ c. refl) refl (λ k. refl) q refl ∙ rw (e, append-nil) refl

  pub took-fields : (d m n now newest : ℕ) (before : List Step) (find find' : ℕ → Option PlainClient) (seat : ℕ → Option Socket) (is_pid : ℕ → Bool) (sets : RoomSets) (table : TableContents) (packets : LogContents)
      → Fields base limits find seat is_pid sets table packets newest before → IsLegal base limits before
      → ((q : ℕ) → find' q ≡ (if d == q then option_map (without_first n) (find q) else find q))
      → Fields base limits find' seat is_pid sets table packets (max now newest) (record { at = max now newest; what = Took d m n } ∷ before)
  took-fields d m n now newest before find find' seat is_pid sets table packets was legal takes =
      fields-quiet (record { at = max now newest; what = Took d m n }) before find find' seat is_pid sets sets table packets newest was refl (λ k. refl) (record { same_sessions = refl; no_call = refl; unused = refl }) (omega arith) refl
      (λ q. takes q ∙ ap (λ o. if d == q then option_map (without_first n) o else o) (was.clients q) ∙ sym (took-at d m n (max now newest) before legal q (d == q) refl))

  pub took-sound : (d m n at : ℕ) (before : List Step) → IsLegal base limits before → IsAllowed base limits before (record { at = at; what = Took d m n }) (Took d m n) → IsSound base limits before → moment base before ≤ at → is_open base before d ≡ true
      → IsSound base limits (record { at = at; what = Took d m n } ∷ before)
  unfolding put is_open
  took-sound d m n at before legal allowed was late known =
      sound-quiet (record { at = at; what = Took d m n }) before legal allowed was late refl (λ c. refl) refl (λ k. refl) (λ c. refl) (record { same_sessions = refl; no_call = refl; unused = refl }) (λ s. refl) was.rooms_agree tt
      (one_of d n (open_clients base before) was.clients_once known) refl

  told-at : (m : PlainMessage) (at : ℕ) (before : List Step) → IsLegal base limits before → (q : ℕ) (b : Bool) → (m.client == q) ≡ b
      → client_at base limits (record { at = at; what = Told m } ∷ before) q ≡ (if b then option_map (with_entry m.entry) (client_at base limits before q) else client_at base limits before q)
  unfolding put
  told-at m at before legal q true e =
      client_at-step (record { at = at; what = Told m }) before legal refl (λ c. refl) refl (λ k. refl) q refl ∙ rw e (on (is_open base before q))
    where
      on : (o : Bool) → (if o then Some (record { sockets = sockets_of base before q; outbox = record { waiting = waiting base limits before q ++ m.entry ∷ []; capacity = limits.capacity; bytes = limits.bytes } }) else None)
          ≡ option_map (with_entry m.entry) (if o then Some (record { sockets = sockets_of base before q; outbox = record { waiting = waiting base limits before q; capacity = limits.capacity; bytes = limits.bytes } }) else None)
      on true = refl
      on false = refl
  told-at m at before legal q false e =
      client_at-step (record { at = at; what = Told m }) before legal refl (λ c. refl) refl (λ k. refl) q refl ∙ rw (e, append-nil) refl

  pub told-fields : (m : PlainMessage) (now newest : ℕ) (before : List Step) (find find' : ℕ → Option PlainClient) (seat : ℕ → Option Socket) (is_pid : ℕ → Bool) (sets : RoomSets) (table : TableContents) (packets : LogContents)
      → Fields base limits find seat is_pid sets table packets newest before → IsLegal base limits before
      → ((q : ℕ) → find' q ≡ (if m.client == q then option_map (with_entry m.entry) (find q) else find q))
      → Fields base limits find' seat is_pid sets table packets (max now newest) (record { at = max now newest; what = Told m } ∷ before)
  told-fields m now newest before find find' seat is_pid sets table packets was legal puts =
      fields-quiet (record { at = max now newest; what = Told m }) before find find' seat is_pid sets sets table packets newest was refl (λ k. refl) (record { same_sessions = refl; no_call = refl; unused = refl }) (omega arith) refl
      (λ q. puts q ∙ ap (λ o. if m.client == q then option_map (with_entry m.entry) o else o) (was.clients q) ∙ sym (told-at m (max now newest) before legal q (m.client == q) refl))

  pub told-sound : (m : PlainMessage) (at : ℕ) (before : List Step) → IsLegal base limits before → IsAllowed base limits before (record { at = at; what = Told m }) (Told m) → IsSound base limits before → moment base before ≤ at → is_open base before m.client ≡ true
      → IsSound base limits (record { at = at; what = Told m } ∷ before)
  unfolding put
  told-sound m at before legal allowed was late known =
      sound-quiet (record { at = at; what = Told m }) before legal allowed was late refl (λ c. refl) refl (λ k. refl) (λ c. refl) (record { same_sessions = refl; no_call = refl; unused = refl }) (λ s. refl) was.rooms_agree (known, tt)
      (sum-zero (λ c. taken_by c (Told m)) (open_clients base before) (λ c e. refl)) refl
