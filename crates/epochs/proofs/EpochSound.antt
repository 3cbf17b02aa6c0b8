-- A history that a hub may have goes on so by each step that is allowed.
use Rattle.std.proofs.Common.{◌≡◌, ◌⊎◌, ℕ, ◌≤◌, ◌==◌, max, Bool, true, false, not, ◌&&◌, ◌||◌, List, [], ◌∷◌, length, map, filter, refl, sym, ◌∙◌, ap, subst, arith, if◌then◌else◌, nat_eq, Option, None, Some, inl, inr}
use Rattle.std.specs.Prelude.{is_some}
use Rattle.std.specs.List.{list_any, IsDistinct, AllByRecursion}
use Rattle.std.specs.Option.{option_map}
use Rattle.std.specs.Cmp.{unsigned_tied}
use Rattle.std.proofs.lemmas.Bool.{eqb-true, eq-eqb}
use Rattle.terms.specs.Refusal.{first_refusal}
use Rattle.terms.specs.declared.entry.Entry.{Entry}
use Rattle.room_maps.specs.declared.error.RoomError.{RoomError}
use Rattle.terms.specs.Room.{same_room, own_room}
use Rattle.room_maps.specs.Membership as room_maps
use Rattle.room_maps.specs.Membership.{RoomSets, is_socket, is_in}
use Rattle.room_maps.proofs.OrderLemmas.{same_room_is, same_room_itself}
use Rattle.recovery.specs.PacketLog.{LogContents}
use Rattle.recovery.specs.SavedTable.{TableContents, removed}
use Rattle.journal.specs.declared.error.HubError.{HubError}
use Rattle.journal.specs.declared.error.HubError.TheVariants.{UnknownClient, UnknownNamespace, AlreadyConnected, IdTaken, OutboxFull}
use Rattle.journal.specs.declared.socket.Socket.{Socket}
use Rattle.journal.specs.declared.ending.Side.{Side}
use Rattle.journal.specs.declared.step.Step.{Step}
use Rattle.journal.specs.declared.step.What.{What}
use Rattle.journal.specs.declared.step.What.TheVariants.{Opened, Attached, Recovered, Joined, Left, AllJoined, AllLeft, Cast, Told, Took, Parked, Ended, AllEnded, Closed, Swept}
use Rattle.journal.specs.declared.totals.Counts.{Counts}
use Rattle.journal.specs.Plain.{PlainBase, Limits, PlainClient, PlainBroadcast, PlainDismissal, PlainRoomChange}
use Rattle.journal.specs.Journal.{moment}
use Rattle.journal.specs.Membership.{is_open, is_space, open_clients, sockets, sid_of, pid_of, has_id, socket_with, is_connected, socket_of, rooms, without_sockets}
use Rattle.journal.specs.Sessions.{sessions, is_sid_saved, is_pid_saved}
use Rattle.journal.specs.Log.{log, next}
use Rattle.journal.specs.Outboxes.{put, answer, entries_of, taken_by, is_addressed, farewell, is_full}
use Rattle.journal.specs.ManySockets.{may_hear}
use Rattle.journal.specs.Parking.{with_lost}
use Rattle.journal.specs.Totals as totals
use Rattle.journal.specs.Totals.{is_spent, handed_out}
use Rattle.journal.specs.Refusals.{is_taken}
use Rattle.journal.specs.Command.{own_refusal}
use Rattle.journal.specs.Legal.{EachTwo, AreApart, IsAway, IsAllowed, IsLegal, IsSound}
use Rattle.journal.specs.Fields.{client_at, with_socket, without_place, held_entries, held_sockets}
use Rattle.journal.proofs.SumsLemmas.{sum-zero}
use Rattle.journal.proofs.MembershipLemmas.{is_open-quiet, clients-quiet, sockets-quiet, socket_with-quiet}
use Rattle.journal.proofs.TotalsLemmas.{conserved-step, flow-quiet}
use Rattle.journal.proofs.SessionsLemmas.{LeavesBacklog, backlog-quiet, sessions-quiet}
use Rattle.journal.proofs.HubLemmas.{legal-step, all-open, opened-sound, took-sound, told-sound}
use Rattle.journal.proofs.CountsLemmas.{unrefused}
use Rattle.journal.proofs.CommandLemmas.{IsHub, not_open}
use Rattle.journal.proofs.SocketsLemmas.{attached}
use Rattle.journal.proofs.RoomsLemmas.{joined, left, may_leave}
use Rattle.journal.proofs.ManySocketsLemmas.{joining-refused, leaving-refused, all-joined, all-left}
use Rattle.journal.proofs.RecoverRefusalLemmas.{may-return}
use Rattle.journal.proofs.RecoverStepLemmas.{recovered, with_return}
use Rattle.journal.proofs.CastStepLemmas.{backlog-cast}
use Rattle.journal.proofs.EndLemmas.{ended, ended-sound, away-ended}
use Rattle.journal.proofs.ParkLemmas.{parked}
use Rattle.journal.proofs.CloseLemmas.{closed}
use Rattle.journal.proofs.SweepLemmas.{swept-sound}
use Rattle.epochs.proofs.EpochSteps.{StaysSound}
use Rattle.epochs.proofs.EpochRooms.{pair-fine, no-pair-fine, members-fine, no-members-fine, socket-fine, socket-in-fine, no-socket-fine, no-sockets-fine}

-- ---- refusals that didn't come

unfold-none : (b : Bool) (e : HubError) (rest : Option HubError) → (if b then Some e else rest) ≡ None → b ≡ false
unfold-none true e rest none = absurd (cc none)
unfold-none false e rest none = refl

rest-none : (b : Bool) (e : HubError) (rest : Option HubError) → (if b then Some e else rest) ≡ None → rest ≡ None
rest-none true e rest none = absurd (cc none)
rest-none false e rest none = none

room-none : (b : Bool) (e : RoomError) (rest : Option RoomError) → (if b then Some e else rest) ≡ None → (b ≡ false) × (rest ≡ None)
room-none true e rest none = absurd (cc none)
room-none false e rest none = (refl, none)

not-false : (b : Bool) → not b ≡ false → b ≡ true
not-false true e = refl
not-false false e = absurd (cc e)

first-or : (a b : Bool) → (a || b) ≡ false → a ≡ false
first-or true b e = e
first-or false b e = refl

not-taken : (a b c d e : Bool) → first_refusal ((a, UnknownClient) ∷ (b, UnknownNamespace) ∷ (c, AlreadyConnected) ∷ (d, IdTaken) ∷ (e, OutboxFull) ∷ []) ≡ None → d ≡ false
not-taken false false false false e none = refl
not-taken false false false true e none = absurd (cc none)
not-taken false false true d e none = absurd (cc none)
not-taken false true c d e none = absurd (cc none)
not-taken true b c d e none = absurd (cc none)

-- what passes for none of a list doesn't for one of it
none-of : (p : ℕ → Bool) (q : ℕ) (xs : List ℕ) → list_any p xs ≡ false → list_any (nat_eq q) xs ≡ true → p q ≡ false
none-of p q [] none some = absurd (cc some)
none-of p q (x ∷ xs) none some = on (none-of p q xs) (nat_eq q x) (p x) refl refl none some
  where
    on : (list_any p xs ≡ false → list_any (nat_eq q) xs ≡ true → p q ≡ false) → (a b : Bool) → nat_eq q x ≡ a → p x ≡ b → (b || list_any p xs) ≡ false → (a || list_any (nat_eq q) xs) ≡ true → p q ≡ false
    on rest a true e h none some = absurd (cc none)
    on rest true false e h none some = ap p (eqb-true q x e) ∙ h
    on rest false false e h none some = rest none some

pairs-known : (P : ℕ → Type 0) (entry : Entry) (xs : List ℕ) → ((c : ℕ) → list_any (nat_eq c) xs ≡ true → P c) → AllByRecursion (λ (p : ℕ × Entry). P p.0) (map (λ (c : ℕ). (c, entry)) xs)
pairs-known P entry [] each = tt
pairs-known P entry (x ∷ xs) each = (each x (ap (λ (b : Bool). b || list_any (nat_eq x) xs) (eq-eqb x x refl)), pairs-known P entry xs (λ c e. each c (ap (λ (b : Bool). nat_eq c x || b) e ∙ or-true (nat_eq c x))))
  where
    or-true : (b : Bool) → (b || true) ≡ true
    or-true true = refl
    or-true false = refl

-- the client of a socket that passes
client-known : (P : ℕ → Type 0) (test : Socket → Bool) (c : ℕ) (ks : List Socket) → AllByRecursion (λ (k : Socket). P k.client) ks → list_any (λ (k : Socket). k.client == c && test k) ks ≡ true → P c
client-known P test c [] all some = absurd (cc some)
client-known P test c (k ∷ ks) all some = on (client-known P test c ks all.1) (k.client == c) (test k) refl some
  where
    on : (list_any (λ (k : Socket). k.client == c && test k) ks ≡ true → P c) → (a b : Bool) → (k.client == c) ≡ a → ((a && b) || list_any (λ (k : Socket). k.client == c && test k) ks) ≡ true → P c
    on rest true true e some = subst P (eqb-true k.client c e) all.0
    on rest true false e some = rest some
    on rest false b e some = rest some

-- ---- one step more

module _ (base : PlainBase) (limits : Limits) (before : List Step) (legal : IsLegal base limits before) (sound : IsSound base limits before) (now : ℕ) where
  abbrev at : ℕ
  at = max now (moment base before)

  late : moment base before ≤ at
  late = omega arith

  abbrev sets : RoomSets
  sets = rooms base before

  abbrev find : ℕ → Option PlainClient
  find = client_at base limits before

  abbrev seat : ℕ → Option Socket
  seat = socket_with sid_of base before

  abbrev pids : ℕ → Bool
  pids = is_connected pid_of base before

  abbrev table : TableContents
  table = record { limit = limits.saved; sessions = sessions base limits before }

  abbrev packets : LogContents
  packets = record { limit = limits.log; bytes = limits.log_bytes; next = next base before; last = 0; entries = log base limits before }

  abbrev counts : Counts
  counts = record { commands = totals.commands base before; placed = totals.placed base limits before; dropped = totals.dropped base before; taken = handed_out base before; discarded = totals.discarded base limits before }

  hub : IsHub base limits find seat pids sets table packets (moment base before) counts before
  hub = (
    record { clients = λ c. refl; seats = λ s. refl; pids = λ p. refl; rooms_are = refl; saved_is = refl; log_is = refl; log_last = omega arith; last = refl },
    legal,
    sound,
    record { commands = refl; placed = refl; dropped = refl; taken = refl; discarded = refl },
  )

  abbrev Goes : What → Type 0
  Goes w = IsAllowed base limits before (record { at = at; what = w }) w → IsSound base limits (record { at = at; what = w } ∷ before)

  -- its own refusals
  free : (w : What) → IsAllowed base limits before (record { at = at; what = w }) w → own_refusal (record { base = base; limits = limits; journal = before }) at w ≡ None
  free w allowed = unrefused (own_refusal (record { base = base; limits = limits; journal = before }) at w) (is_spent base limits before w) (sym allowed.0)

  goes-attached : (k : Socket) → Goes (Attached k)
  goes-attached k allowed =
      let taken = not-taken (not (is_open base before k.client)) (not (is_space limits k.space)) (is_some (socket_of base before k.client k.space)) (is_taken base limits before k) (is_full base limits before k.client (answer limits k)) (free (Attached k) allowed) in
      let unknown : is_socket sets k.sid ≡ false = sound.seated k.sid ∙ first-or (is_connected sid_of base before k.sid) (is_sid_saved (sessions base limits before) k.sid)
      (first-or (is_connected sid_of base before k.sid || is_sid_saved (sessions base limits before) k.sid) (is_connected pid_of base before k.pid || is_pid_saved (sessions base limits before) k.pid) taken) in
      let after = attached base limits k now (moment base before) find (λ q. if k.client == q then option_map (with_socket k (answer limits k)) (find q) else find q) seat (λ s. if k.sid == s then Some k else seat s)
      pids (λ p. (k.pid == p) || pids p) sets (room_maps.with_socket sets k.sid) table packets counts before hub (sym allowed.0) (λ q. refl) (λ s. refl) (λ p. refl) refl (socket-fine sets sound.rooms_agree k.sid unknown) in after.2

  goes-recovered : (r : _) → Goes (Recovered r)
  goes-recovered r allowed =
      let es : List Entry = answer limits r.socket ∷ entries_of (log base limits before) r.missed in
      let may = may-return base limits before r sound allowed.1 in
      let after = recovered base limits r now (moment base before) (length es) find (λ q. if r.socket.client == q then option_map (with_return r.socket es) (find q) else find q) seat (λ s. if r.socket.sid == s then Some r.socket else seat s)
      pids (λ p. (r.socket.pid == p) || pids p) sets (room_maps.with_socket_in sets r.socket.sid r.rooms) table (removed table r.socket.pid) packets counts before es hub (sym allowed.0) allowed.1 refl refl (λ q. refl) (λ s. refl) (λ p. refl) refl
      (socket-in-fine sets sound.rooms_agree r.socket.sid may.no_socket r.rooms may.few) refl in after.2

  rooms-free : (known : Bool) (refusal : Option RoomError) → (if known then option_map HubError.RoomRefused refusal else Some HubError.UnknownSocket) ≡ None → refusal ≡ None
  rooms-free true None e = refl
  rooms-free true (Some x) e = absurd (cc e)
  rooms-free false refusal e = absurd (cc e)

  goes-joined : (s : ℕ) (room : List ℕ) → Goes (Joined s room)
  goes-joined s room allowed =
      let refusal = rooms-free _ _ (free (Joined s room) allowed) in
      let one = room-none _ _ _ refusal in
      let two = room-none _ _ _ one.1 in
      let three = room-none _ _ _ two.1 in
      let after = joined base limits s room now (moment base before) find seat pids sets (room_maps.with_pair sets s room) table packets counts before hub (sym allowed.0) refl
      (pair-fine sets sound.rooms_agree s room (not-false _ one.0) three.0) in after.2

  goes-left : (s : ℕ) (room : List ℕ) → Goes (Left s room)
  goes-left s room allowed =
      let refusal = may_leave base limits sets before s room refl (sym allowed.0) in
      let other = (room-none _ _ _ (room-none _ _ _ refusal).1).0 in
      let after = left base limits s room now (moment base before) find seat pids sets (room_maps.without_pair sets s room) table packets counts before hub (sym allowed.0) refl (no-pair-fine sets sound.rooms_agree s room other) in after.2

  lifted : (refusal : Option RoomError) → option_map HubError.RoomRefused refusal ≡ None → refusal ≡ None
  lifted None e = refl
  lifted (Some x) e = absurd (cc e)

  goes-all-joined : (m : PlainRoomChange) → Goes (AllJoined m)
  goes-all-joined m allowed =
      let none = free (AllJoined m) allowed in
      let there = not-false (is_space limits m.space) (unfold-none _ _ _ none) in
      let refusal = lifted _ (sym (joining-refused base limits before sound sets refl m there allowed.1) ∙ none) in
      let one = room-none _ _ _ refusal in
      let two = room-none _ _ _ one.1 in
      let after = all-joined base limits m now (moment base before) find seat pids sets (room_maps.with_members sets m.changed m.room) table packets counts before hub (sym allowed.0) allowed.1 refl
      (members-fine sets sound.rooms_agree m.changed m.room
      (λ q some. (not-false (is_socket sets q) (none-of (λ sid. not (is_socket sets sid)) q m.changed one.0 some), place q (is_in sets q m.room) refl (none-of (λ sid. not (is_in sets sid m.room) && room_maps.is_full sets sid) q m.changed two.0 some)))) in after.2
    where
      place : (q : ℕ) (b : Bool) → is_in sets q m.room ≡ b → (not b && room_maps.is_full sets q) ≡ false → (is_in sets q m.room ≡ true) ⊎ (room_maps.is_full sets q ≡ false)
      place q true e h = inl e
      place q false e h = inr h

  goes-all-left : (m : PlainRoomChange) → Goes (AllLeft m)
  goes-all-left m allowed =
      let none = free (AllLeft m) allowed in
      let there = not-false (is_space limits m.space) (unfold-none _ _ _ none) in
      let refusal = lifted _ (sym (leaving-refused base limits before sound sets refl m there sound.rooms_agree allowed.1) ∙ none) in
      let own = (room-none _ _ _ (room-none _ _ _ refusal).1).0 in
      let after = all-left base limits m now (moment base before) find seat pids sets (room_maps.without_members sets m.changed m.room) table packets counts before hub (sym allowed.0) allowed.1 refl
      (no-members-fine sets sound.rooms_agree m.changed m.room (λ q some. turned q (same_room m.room (own_room q)) refl (none-of (λ sid. same_room (own_room sid) m.room) q m.changed own some))) in after.2
    where
      turned : (q : ℕ) (b : Bool) → same_room m.room (own_room q) ≡ b → same_room (own_room q) m.room ≡ false → b ≡ false
      turned q false e h = refl
      turned q true e h = sym (same_room_itself (own_room q)) ∙ ap (same_room (own_room q)) (sym (same_room_is m.room (own_room q) e)) ∙ h

  goes-parked : (c : ℕ) → Goes (Parked c)
  goes-parked c allowed =
      let its = held_sockets (find c) in
      let after = parked base limits c (length (held_entries (find c))) now (moment base before) find (λ q. if c == q then None else find q) seat (λ s. if list_any (has_id sid_of s) its then None else seat s) pids (λ p. if list_any (has_id pid_of p) its then false else pids p)
      sets (without_sockets sets its) table (with_lost sets at its table) packets counts before hub (sym allowed.0) refl (λ q. refl) (λ s. refl) (λ p. refl) refl (no-sockets-fine sets sound.rooms_agree its) at refl refl in after.2

  goes-closed : (c : ℕ) → Goes (Closed c)
  goes-closed c allowed =
      let its = held_sockets (find c) in
      let after = closed base limits c (length (held_entries (find c))) now (moment base before) find (λ q. if c == q then None else find q) seat (λ s. if list_any (has_id sid_of s) its then None else seat s) pids (λ p. if list_any (has_id pid_of p) its then false else pids p)
      sets (without_sockets sets its) table packets counts before hub (sym allowed.0) refl (λ q. refl) (λ s. refl) (λ p. refl) refl (no-sockets-fine sets sound.rooms_agree its) in after.2

  goes-ended : (s : ℕ) (by : Side) → Goes (Ended s by)
  goes-ended s by allowed = on (seat s) refl (not-false _ (unfold-none _ _ _ (free (Ended s by) allowed)))
    where
      on : (o : Option Socket) → seat s ≡ o → is_some (seat s) ≡ true → IsSound base limits (record { at = at; what = Ended s by } ∷ before)
      on None found known = absurd (cc (ap (λ (o : Option Socket). is_some o) (sym found) ∙ known))
      on (Some k) found known =
          let after = ended base limits s by k now (moment base before) find (λ q. if k.client == q then option_map (without_place k.space) (find q) else find q) seat (λ x. if k.sid == x then None else seat x) pids (λ x. if k.pid == x then false else pids x)
          sets (room_maps.without_socket sets k.sid) table packets counts before hub (sym allowed.0) found (λ q. refl) (λ x. refl) (λ x. refl) refl (no-socket-fine sets sound.rooms_agree k.sid) in after.2

  goes-all-ended : (d : PlainDismissal) → Goes (AllEnded d)
  unfolding put
  goes-all-ended d allowed =
      let step : Step = record { at = at; what = AllEnded d } in
      let leaves : LeavesBacklog base limits step before = record { same_sessions = refl; no_call = refl; unused = refl } in
      let puts = pairs-known (λ (c : ℕ). is_open base before c ≡ true) (farewell limits d.space) d.told
      (λ c some. client-known (λ (c : ℕ). is_open base before c ≡ true) (may_hear base limits before d.space d.rooms d.excepted) c (sockets base before) sound.of_open_clients
      (sym (allowed.1.told.exactly c) ∙ (λ i. list_any (λ x. unsigned_tied c x i) d.told) ∙ some)) in
      let flows = flow-quiet base limits step before legal allowed sound.clients_once refl (λ c. refl) (λ c. refl) puts (sum-zero (λ c. taken_by c (AllEnded d)) (open_clients base before) (λ c e. refl)) in
      ended-sound base limits step before refl sound
      (subst (IsDistinct nat_eq) (sym (clients-quiet base step before refl (λ c. refl))) sound.clients_once)
      (λ l opened stays. is_open-quiet base step before refl (λ c. refl) l.client ∙ opened)
      refl (no-sockets-fine sets sound.rooms_agree (filter (λ (k : Socket). list_any (λ s. k.sid == s) d.ended) (sockets base before)))
      (subst (AllByRecursion (IsAway (sockets base (step ∷ before)))) (sym (sessions-quiet base limits step before leaves)) (away-ended base limits step before refl (sessions base limits before) sound.apart))
      (backlog-quiet base limits step before leaves late sound)
      (conserved-step base limits step before sound.conserved (omega (arith, flows)))

  all-known : (b : PlainBroadcast) (t : Socket → Bool) (ks : List Socket) → AllByRecursion (λ (k : Socket). is_open base before k.client ≡ true) ks
      → AllByRecursion (λ (p : ℕ × Entry). is_open base before p.0 ≡ true) (map (λ (k : Socket). (k.client, b.entry)) (filter t ks))
  all-known b t [] known = tt
  all-known b t (k ∷ ks) known = on (t k) (all-known b t ks known.1)
    where
      on : (here : Bool) → AllByRecursion (λ (p : ℕ × Entry). is_open base before p.0 ≡ true) (map (λ (k : Socket). (k.client, b.entry)) (filter t ks))
          → AllByRecursion (λ (p : ℕ × Entry). is_open base before p.0 ≡ true) (map (λ (k : Socket). (k.client, b.entry)) (if here then k ∷ filter t ks else filter t ks))
      on true rest = (known.0, rest)
      on false rest = rest

  goes-cast : (b : PlainBroadcast) → Goes (Cast b)
  unfolding put rooms sessions
  goes-cast b allowed =
      let step : Step = record { at = at; what = Cast b } in
      let cs = clients-quiet base step before refl (λ c. refl) in
      let ks = sockets-quiet base step before refl (λ k. refl) in
      let backlog = backlog-cast base limits before b at sound late allowed.1.offset in
      let puts = all-known b (λ (k : Socket). is_addressed base before b k && not (list_any (λ s. s == k.sid) b.dropped)) (sockets base before) sound.of_open_clients in
      record {
        few_spaces = sound.few_spaces;
        clients_once = subst (IsDistinct nat_eq) (sym cs) sound.clients_once;
        sockets_apart = subst (EachTwo AreApart) (sym ks) sound.sockets_apart;
        of_open_clients = subst (AllByRecursion (λ (k : Socket). is_open base (step ∷ before) k.client ≡ true)) (sym ks)
            (all-open base limits step before (λ c e. is_open-quiet base step before refl (λ c. refl) c ∙ e) (sockets base before) sound.of_open_clients);
        in_spaces = subst (AllByRecursion (λ (k : Socket). is_space limits k.space ≡ true)) (sym ks) sound.in_spaces;
        seated = λ s. sound.seated s ∙ sym (ap is_some (socket_with-quiet base step before sid_of refl (λ k. refl) s));
        rooms_agree = sound.rooms_agree;
        apart = rw ks sound.apart;
        sessions_differ = backlog.sessions_differ;
        few_rooms = backlog.few_rooms;
        offsets_rise = backlog.offsets_rise;
        log_rises = backlog.log_rises;
        log_late = backlog.log_late;
        conserved = conserved-step base limits step before sound.conserved
            (let f = flow-quiet base limits step before legal allowed sound.clients_once refl (λ c. refl) (λ c. refl) puts (sum-zero (λ c. taken_by c (Cast b)) (open_clients base before) (λ c e. refl)) in omega (arith, f));
      }

  goes : (w : What) → Goes w
  goes (Opened c) allowed = opened-sound base limits c at before legal sound late (not_open base limits c before (free (Opened c) allowed))
  goes (Attached k) allowed = goes-attached k allowed
  goes (Recovered r) allowed = goes-recovered r allowed
  goes (Joined s room) allowed = goes-joined s room allowed
  goes (Left s room) allowed = goes-left s room allowed
  goes (AllJoined m) allowed = goes-all-joined m allowed
  goes (AllLeft m) allowed = goes-all-left m allowed
  goes (Cast b) allowed = goes-cast b allowed
  goes (Told m) allowed = told-sound base limits m at before legal allowed sound late (not-false _ (unfold-none _ _ _ (free (Told m) allowed)))
  goes (Took c most n) allowed = took-sound base limits c most n at before legal allowed sound late (not-false _ (unfold-none _ _ _ (free (Took c most n) allowed)))
  goes (Parked c) allowed = goes-parked c allowed
  goes (Ended s by) allowed = goes-ended s by allowed
  goes (AllEnded d) allowed = goes-all-ended d allowed
  goes (Closed c) allowed = goes-closed c allowed
  goes Swept allowed = swept-sound base limits at before legal allowed sound late

pub stays-sound : StaysSound
stays-sound h now w fine may = (
  legal-step h.base h.limits (record { at = max now (moment h.base h.journal); what = w }) h.journal may (late h.base h.limits h.journal fine.0 fine.1 now) fine.0,
  goes h.base h.limits h.journal fine.0 fine.1 now w may,
)
