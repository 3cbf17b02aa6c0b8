-- What losing a client makes of a hub, and what closing it does.
use Rattle.std.proofs.Common.{◌≡◌, ℕ, ◌+◌, ◌≤◌, ◌==◌, Bool, true, false, ◌&&◌, not, List, [], ◌∷◌, ◌++◌, length, filter, max, refl, sym, ◌∙◌, ap, subst, arith, if◌then◌else◌, Option, None, nat_eq, append-nil}
use Rattle.std.specs.List.{list_any, sum_by, IsDistinct, AllByRecursion}
use Rattle.std.specs.Set.{is_member}
use Rattle.std.proofs.lemmas.Bool.Decides.{nat_tests}
use Rattle.room_maps.specs.Membership.{RoomSets, AreConsistent, is_socket}
use Rattle.recovery.specs.PacketLog.{LogContents}
use Rattle.recovery.specs.SavedTable.{TableContents}
use Rattle.journal.specs.declared.socket.Socket.{Socket}
use Rattle.journal.specs.declared.step.Step.{Step}
use Rattle.journal.specs.declared.step.What.TheVariants.{Closed}
use Rattle.journal.specs.declared.totals.Counts.{Counts}
use Rattle.journal.specs.Plain.{PlainBase, Limits, PlainClient}
use Rattle.journal.specs.Journal.{moment}
use Rattle.journal.specs.Membership.{opens, closes, open_clients, is_open, connects, ends, sockets, sid_of, pid_of, has_id, sockets_of, rooms, rooms_after, without_sockets}
use Rattle.journal.specs.Sessions.{sessions}
use Rattle.journal.specs.Log.{log, next}
use Rattle.journal.specs.Outboxes.{put, entries_for, begins, taken_by, waiting}
use Rattle.journal.specs.Totals.{placed_by, handed_out_by, discarded_by, waiting_in_all, is_spent, IsConserved}
use Rattle.journal.specs.Refusals.{or_spent, client_refusal}
use Rattle.journal.specs.Legal.{IsLegal, IsSound, IsAway, EachTwo, AreApart}
use Rattle.journal.specs.Fields.{Fields, Counted, CanCount, client_at, held_sockets, held_entries}
use Rattle.journal.proofs.SumsLemmas.{sum-same, sum-without, distinct-filter, member-filter}
use Rattle.journal.proofs.OutboxesLemmas.{waiting-quiet}
use Rattle.journal.proofs.TotalsLemmas.{conserved-step}
use Rattle.journal.proofs.SessionsLemmas.{LeavesBacklog, BacklogIsSound, sessions-quiet, table-quiet, packets-quiet, backlog-quiet}
use Rattle.journal.proofs.HubLemmas.{legal-step}
use Rattle.journal.proofs.CountsLemmas.{counted, can, unrefused, unspent}
use Rattle.journal.proofs.CommandLemmas.{IsHub}
use Rattle.journal.proofs.EndLemmas.{all-filter, each-filter, all-known, away-ended, sockets-ended, ended-fields, ended-sound, ended_by}

-- the step ends the client and all its sockets, discards what waits for it, and does nothing else, but for the saved sessions
pub record Loses (base : PlainBase) (limits : Limits) (step : Step) (before : List Step) (c : ℕ) : Type 0 where
  pub opens_none : opens step.what ≡ []
  pub closes_it : (q : ℕ) → closes step.what q ≡ (c == q)
  pub connects_none : connects step.what ≡ []
  pub ends_its : (k : Socket) → ends step.what k ≡ (k.client == c)
  pub begins_none : (q : ℕ) → begins q step.what ≡ false
  pub takes_none : (q : ℕ) → taken_by q step.what ≡ 0
  pub puts_none : put base limits before step.what ≡ []
  pub hands_none : handed_out_by step.what ≡ 0
  pub discards : discarded_by base limits before step.what ≡ length (waiting base limits before c)
  pub leaves_rooms : (sets : RoomSets) → rooms_after base before sets step.what ≡ without_sockets sets (sockets_of base before c)

-- the sockets of another client stay
others-stay : (c q : ℕ) (ks : List Socket) → (c == q) ≡ false → filter (λ (k : Socket). k.client == q) (filter (λ (k : Socket). not (k.client == c)) ks) ≡ filter (λ (k : Socket). k.client == q) ks
others-stay c q [] other = refl
others-stay c q (k ∷ ks) other = on (k.client == c) refl (others-stay c q ks other)
  where
    on : (b : Bool) → (k.client == c) ≡ b → filter (λ (k : Socket). k.client == q) (filter (λ (k : Socket). not (k.client == c)) ks) ≡ filter (λ (k : Socket). k.client == q) ks
        → filter (λ (k : Socket). k.client == q) (if not b then k ∷ filter (λ (k : Socket). not (k.client == c)) ks else filter (λ (k : Socket). not (k.client == c)) ks)
        ≡ (if k.client == q then k ∷ filter (λ (k : Socket). k.client == q) ks else filter (λ (k : Socket). k.client == q) ks)
    on true e rest = let not_its : (k.client == q) ≡ false = grind (arith, nat_tests, e, other) in rw not_its rest
    on false e rest = ap (λ l. if k.client == q then k ∷ l else l) rest

module _ (base : PlainBase) (limits : Limits) (step : Step) (before : List Step) (c : ℕ) (loses : Loses base limits step before c) where
  clients-lost : open_clients base (step ∷ before) ≡ filter (λ q. not (c == q)) (open_clients base before)
  unfolding open_clients
  clients-lost =
      ap (λ l. filter (λ q. not (closes step.what q)) (open_clients base before) ++ l) loses.opens_none ∙ append-nil (filter (λ q. not (closes step.what q)) (open_clients base before))
      ∙ (λ i. filter (λ q. not (loses.closes_it q i)) (open_clients base before))

  is_open-lost : (q : ℕ) → is_open base (step ∷ before) q ≡ (is_open base before q && not (c == q))
  unfolding is_open
  is_open-lost q = ap (λ cs. is_member nat_eq cs q) clients-lost ∙ member-filter (λ q. not (c == q)) q (open_clients base before)

  pub ended-lost : ended_by base before step.what ≡ sockets_of base before c
  unfolding sockets_of
  ended-lost i = filter (λ k. loses.ends_its k i) (sockets base before)

  of-lost : (q : ℕ) → (c == q) ≡ false → sockets_of base (step ∷ before) q ≡ sockets_of base before q
  unfolding sockets_of
  of-lost q other =
      ap (filter (λ (k : Socket). k.client == q)) (sockets-ended base limits step before loses.connects_none ∙ (λ i. filter (λ k. not (loses.ends_its k i)) (sockets base before)))
      ∙ others-stay c q (sockets base before) other

  waiting-lost : IsLegal base limits before → (q : ℕ) → waiting base limits (step ∷ before) q ≡ waiting base limits before q
  waiting-lost legal q = waiting-quiet base limits step before legal q (loses.begins_none q) (loses.takes_none q) (nothing q)
    where
      nothing : (q : ℕ) → entries_for q (put base limits before step.what) ≡ []
      nothing q = ap (entries_for q) loses.puts_none

  -- what is held of the clients after it
  pub lost-at : IsLegal base limits before → (q : ℕ) → client_at base limits (step ∷ before) q ≡ (if c == q then None else client_at base limits before q)
  lost-at legal q = on (c == q) refl
    where
      shut : (b : Bool) → (b && false) ≡ false
      shut true = refl
      shut false = refl

      still : (b : Bool) → (b && true) ≡ b
      still true = refl
      still false = refl

      on : (b : Bool) → (c == q) ≡ b → client_at base limits (step ∷ before) q ≡ (if b then None else client_at base limits before q)
      on true e = rw (is_open-lost q, e, shut) refl
      on false e = rw (is_open-lost q, e, still, of-lost q e, waiting-lost legal q) refl

  waits-lost : IsLegal base limits before → IsDistinct nat_eq (open_clients base before) → is_open base before c ≡ true
      → waiting_in_all base limits (step ∷ before) + length (waiting base limits before c) ≡ waiting_in_all base limits before
  unfolding waiting_in_all is_open
  waits-lost legal once known =
      let after : ℕ → ℕ = λ q. length (waiting base limits (step ∷ before) q) in
      let was : ℕ → ℕ = λ q. length (waiting base limits before q) in
      let those : sum_by after (open_clients base (step ∷ before)) ≡ sum_by after (filter (λ q. not (c == q)) (open_clients base before)) = ap (sum_by after) clients-lost in
      let same : sum_by after (filter (λ q. not (c == q)) (open_clients base before)) ≡ sum_by was (filter (λ q. not (c == q)) (open_clients base before))
      = sum-same after was (filter (λ q. not (c == q)) (open_clients base before)) (λ q e. ap length (waiting-lost legal q)) in
      let all : sum_by was (open_clients base before) ≡ was c + sum_by was (filter (λ q. not (c == q)) (open_clients base before)) = sum-without was c (open_clients base before) once known in
      omega (arith, those, same, all)

  conserved-lost : IsLegal base limits before → IsSound base limits before → is_open base before c ≡ true → IsConserved base limits (step ∷ before)
  conserved-lost legal was known =
      let waits = waits-lost legal was.clients_once known in
      let puts : placed_by base limits before step.what ≡ 0 = ap length loses.puts_none in
      let hands = loses.hands_none in
      let discards = loses.discards in
      conserved-step base limits step before was.conserved (omega (arith, waits, puts, hands, discards))

  -- what the maps say where just this client and its sockets were forgotten
  pub lost-fields : (find find' : ℕ → Option PlainClient) (seat seat' : ℕ → Option Socket) (is_pid is_pid' : ℕ → Bool) (sets sets' : RoomSets) (table table' : TableContents) (packets : LogContents) (newest : ℕ)
      → Fields base limits find seat is_pid sets table packets newest before → IsLegal base limits before → EachTwo AreApart (sockets base before)
      → ((q : ℕ) → find' q ≡ (if c == q then None else find q))
      → (gone : List Socket) → gone ≡ sockets_of base before c
      → ((s : ℕ) → seat' s ≡ (if list_any (has_id sid_of s) gone then None else seat s))
      → ((p : ℕ) → is_pid' p ≡ (if list_any (has_id pid_of p) gone then false else is_pid p))
      → sets' ≡ without_sockets sets gone
      → table' ≡ record { limit = limits.saved; sessions = sessions base limits (step ∷ before) }
      → packets ≡ record { limit = limits.log; bytes = limits.log_bytes; next = next base (step ∷ before); last = packets.last; entries = log base limits (step ∷ before) }
      → newest ≤ step.at
      → Fields base limits find' seat' is_pid' sets' table' packets step.at (step ∷ before)
  lost-fields find find' seat seat' is_pid is_pid' sets sets' table table' packets newest was legal apart clients gone those seats pids left saved logged late =
      ended-fields base limits step before loses.connects_none find find' seat seat' is_pid is_pid' sets sets' table table' packets newest was apart
      (λ q. clients q ∙ ap (λ o. if c == q then None else o) (was.clients q) ∙ sym (lost-at legal q))
      gone (those ∙ sym ended-lost) seats pids
      (left ∙ ap (without_sockets sets) those ∙ sym (loses.leaves_rooms sets))
      saved logged late

  -- what stays sound, where the saved sessions and the log do
  pub lost-sound : IsLegal base limits before → IsSound base limits before → is_open base before c ≡ true
      → AreConsistent (rooms_after base before (rooms base before) step.what)
      → AllByRecursion (IsAway (sockets base (step ∷ before))) (sessions base limits (step ∷ before))
      → BacklogIsSound base limits (step ∷ before)
      → IsSound base limits (step ∷ before)
  lost-sound legal was known agree away backlog =
      ended-sound base limits step before loses.connects_none was
      (subst (IsDistinct nat_eq) (sym clients-lost) (distinct-filter (λ q. not (c == q)) (open_clients base before) was.clients_once))
      (λ k opened stays. is_open-lost k.client ∙ rw opened (other k (ap not (sym (loses.ends_its k)) ∙ stays)))
      (loses.leaves_rooms (rooms base before) ∙ ap (without_sockets (rooms base before)) (sym ended-lost))
      agree away backlog (conserved-lost legal was known)
    where
      other : (k : Socket) → not (k.client == c) ≡ true → not (c == k.client) ≡ true
      other k e = grind (arith, nat_tests, e)

-- ---- a client is closed

module _ (base : PlainBase) (limits : Limits) where
  pub known_client : (c : ℕ) (before : List Step) → client_refusal base before c ≡ None → is_open base before c ≡ true
  known_client c before e = grind (arith, e)

  -- the sockets and the entries that are held of an open client
  pub held : (find : ℕ → Option PlainClient) (before : List Step) (c : ℕ) → ((q : ℕ) → find q ≡ client_at base limits before q) → is_open base before c ≡ true
      → (held_sockets (find c) ≡ sockets_of base before c) × (held_entries (find c) ≡ waiting base limits before c)
  held find before c finds known = (ap held_sockets (finds c) ∙ rw known refl, ap held_entries (finds c) ∙ rw known refl)

  -- the rooms know the client's sockets, and these are apart
  pub its-known : (before : List Step) (sets : RoomSets) (c : ℕ) (gone : List Socket) → IsSound base limits before → sets ≡ rooms base before → gone ≡ sockets_of base before c → AllByRecursion (λ (k : Socket). is_socket sets k.sid ≡ true) gone
  unfolding sockets_of
  its-known before sets c gone was same those =
      subst (AllByRecursion (λ (k : Socket). is_socket sets k.sid ≡ true)) (sym those) (all-filter (λ (k : Socket). is_socket sets k.sid ≡ true) (λ (k : Socket). k.client == c) (sockets base before) (all-known base limits before sets was same))

  pub its-apart : (before : List Step) (c : ℕ) (gone : List Socket) → IsSound base limits before → gone ≡ sockets_of base before c → EachTwo AreApart gone
  unfolding sockets_of
  its-apart before c gone was those = subst (EachTwo AreApart) (sym those) (each-filter AreApart (λ (k : Socket). k.client == c) (sockets base before) was.sockets_apart)

  pub puts_closed : (before : List Step) (c : ℕ) → placed_by base limits before (Closed c) ≡ 0
  unfolding put
  puts_closed before c = refl

  loses-closed : (c at : ℕ) (before : List Step) → Loses base limits (record { at = at; what = Closed c }) before c
  unfolding put
  loses-closed c at before = record {
    opens_none = refl;
    closes_it = λ q. refl;
    connects_none = refl;
    ends_its = λ k. refl;
    begins_none = λ q. refl;
    takes_none = λ q. refl;
    puts_none = refl;
    hands_none = refl;
    discards = refl;
    leaves_rooms = λ sets. refl;
  }

  pub closed : (c discards now newest : ℕ) (find find' : ℕ → Option PlainClient) (seat seat' : ℕ → Option Socket) (is_pid is_pid' : ℕ → Bool) (sets sets' : RoomSets) (table : TableContents) (packets : LogContents) (counts : Counts) (before : List Step)
      → IsHub base limits find seat is_pid sets table packets newest counts before
      → None ≡ or_spent (client_refusal base before c) (is_spent base limits before (Closed c))
      → discards ≡ length (held_entries (find c))
      → ((q : ℕ) → find' q ≡ (if c == q then None else find q))
      → ((s : ℕ) → seat' s ≡ (if list_any (has_id sid_of s) (held_sockets (find c)) then None else seat s))
      → ((p : ℕ) → is_pid' p ≡ (if list_any (has_id pid_of p) (held_sockets (find c)) then false else is_pid p))
      → sets' ≡ without_sockets sets (held_sockets (find c)) → AreConsistent sets'
      → IsHub base limits find' seat' is_pid' sets' table packets (max now newest) (record { commands = counts.commands + 1; placed = counts.placed + 0; dropped = counts.dropped + 0; taken = counts.taken + 0; discarded = counts.discarded + discards }) (record { at = max now newest; what = Closed c } ∷ before)
  closed c discards now newest find find' seat seat' is_pid is_pid' sets sets' table packets counts before was accepted waits clients seats pids left consistent =
      let step : Step = record { at = max now newest; what = Closed c } in
      let late : moment base before ≤ max now newest = rw (← was.0.last) (omega arith) in
      let later : newest ≤ max now newest = omega arith in
      let loses = loses-closed c (max now newest) before in
      let leaves : LeavesBacklog base limits step before = record { same_sessions = refl; no_call = refl; unused = refl } in
      let allowed = unrefused (client_refusal base before c) (is_spent base limits before (Closed c)) accepted in
      let known = known_client c before allowed in
      let its = held find before c was.0.clients known in
      let agree : AreConsistent (without_sockets (rooms base before) (sockets_of base before c)) = subst AreConsistent (left ∙ ap (without_sockets sets) its.0 ∙ ap (λ v. without_sockets v (sockets_of base before c)) was.0.rooms_are) consistent in (
        lost-fields base limits step before c loses find find' seat seat' is_pid is_pid' sets sets' table table packets newest was.0 was.1 was.2.sockets_apart clients (held_sockets (find c)) its.0 seats pids left
            (table-quiet base limits step before table leaves was.0.saved_is) (packets-quiet base limits step before packets leaves was.0.log_is) later,
        legal-step base limits step before (sym accepted, tt) late was.1,
        lost-sound base limits step before c loses was.1 was.2 known agree
            (subst (AllByRecursion (IsAway (sockets base (step ∷ before)))) (sym (sessions-quiet base limits step before leaves)) (away-ended base limits step before refl (sessions base limits before) was.2.apart))
            (backlog-quiet base limits step before leaves late was.2),
        counted base limits before counts was.3 was.2.conserved step 0 0 0 discards (puts_closed before c) refl refl (sym (waits ∙ ap length its.1)),
      )

  pub can_close : (find : ℕ → Option PlainClient) (before : List Step) (counts : Counts) → Counted base limits counts before → IsSound base limits before → ((q : ℕ) → find q ≡ client_at base limits before q) → (c discards : ℕ)
      → None ≡ or_spent (client_refusal base before c) (is_spent base limits before (Closed c)) → discards ≡ length (held_entries (find c)) → CanCount counts 0 0 0 discards
  can_close find before counts was sound finds c discards accepted waits =
      let known = known_client c before (unrefused (client_refusal base before c) (is_spent base limits before (Closed c)) accepted) in
      can base limits before counts was sound.conserved (Closed c) 0 0 0 discards (puts_closed before c) refl refl (sym (waits ∙ ap length (held find before c finds known).1)) (unspent (client_refusal base before c) (is_spent base limits before (Closed c)) accepted)

  -- what is held of the client can be forgotten
  pub can_forget : (c newest : ℕ) (find : ℕ → Option PlainClient) (seat : ℕ → Option Socket) (is_pid : ℕ → Bool) (sets : RoomSets) (table : TableContents) (packets : LogContents) (counts : Counts) (before : List Step)
      → IsHub base limits find seat is_pid sets table packets newest counts before
      → None ≡ or_spent (client_refusal base before c) (is_spent base limits before (Closed c))
      → AllByRecursion (λ (k : Socket). is_socket sets k.sid ≡ true) (held_sockets (find c)) × EachTwo AreApart (held_sockets (find c))
  can_forget c newest find seat is_pid sets table packets counts before was accepted =
      let known = known_client c before (unrefused (client_refusal base before c) (is_spent base limits before (Closed c)) accepted) in
      let its = held find before c was.0.clients known in
      (its-known before sets c (held_sockets (find c)) was.2 was.0.rooms_are its.0, its-apart before c (held_sockets (find c)) was.2 its.0)
