-- What bringing back a session makes of a hub.
use Rattle.std.proofs.Common.{◌≡◌, ℕ, ◌+◌, ◌≤◌, ◌==◌, Bool, true, false, ◌||◌, not, List, [], ◌∷◌, ◌++◌, length, filter, map, max, refl, sym, ◌∙◌, ap, subst, arith, if◌then◌else◌, Option, None, Some, nat_eq, append-nil}
use Rattle.std.specs.Prelude.{is_some, IfSome}
use Rattle.std.specs.List.{find, IsDistinct, AllByRecursion}
use Rattle.std.specs.Option.{option_map}
use Rattle.std.proofs.lemmas.Bool.Decides.{nat_tests}
use Rattle.std.proofs.lemmas.List.Elements.{filter-append}
use Rattle.room_maps.specs.Membership.{RoomSets, is_socket, AreConsistent, are_too_many}
use Rattle.room_maps.proofs.MembershipLaws.{is_socket-with_socket_in}
use Rattle.room_maps.specs.Membership as room_maps
use Rattle.recovery.specs.PacketLog.{LogContents}
use Rattle.recovery.specs.SavedTable.{PlainSaved, TableContents, removed}
use Rattle.terms.specs.declared.entry.Entry.{Entry}
use Rattle.journal.specs.declared.socket.Socket.{Socket}
use Rattle.journal.specs.declared.step.Step.{Step}
use Rattle.journal.specs.declared.step.What.TheVariants.{Recovered}
use Rattle.journal.specs.declared.totals.Counts.{Counts}
use Rattle.journal.specs.Plain.{PlainBase, Limits, PlainRecovery, PlainClient}
use Rattle.journal.specs.Journal.{moment}
use Rattle.journal.specs.Membership.{open_clients, is_open, sockets, sid_of, pid_of, has_id, socket_with, is_connected, sockets_of, socket_of, is_space, rooms}
use Rattle.journal.specs.Sessions.{sessions}
use Rattle.journal.specs.Log.{log, log_calls, next}
use Rattle.journal.specs.Outboxes.{put, taken_by, entries_for, entries_of, waiting, answer, total_size}
use Rattle.journal.specs.Recovery.{with_entries}
use Rattle.journal.specs.Totals.{is_spent}
use Rattle.journal.specs.Refusals.{or_spent, have_no_space, recover_refusal}
use Rattle.journal.specs.Legal.{RightRecovery, IsAllowed, IsLegal, IsSound, IsAway, EachTwo, AreApart, DifferInIds}
use Rattle.journal.specs.Fields.{Fields, client_at, plus_socket}
use Rattle.journal.proofs.SumsLemmas.{sum-zero}
use Rattle.journal.proofs.MembershipLemmas.{filter-all, is_open-quiet, clients-quiet}
use Rattle.journal.proofs.OutboxesLemmas.{waiting-step}
use Rattle.journal.proofs.TotalsLemmas.{conserved-step, flow-quiet}
use Rattle.journal.proofs.SessionsLemmas.{number-quiet, next-quiet, away-push}
use Rattle.journal.proofs.HubLemmas.{legal-step, rooms-step, all-open}
use Rattle.journal.proofs.CountsLemmas.{counted, unrefused}
use Rattle.journal.proofs.CommandLemmas.{IsHub}
use Rattle.journal.proofs.EndLemmas.{all-filter, each-filter}
use Rattle.journal.proofs.SocketsLemmas.{find-push, apart-ids, apart-spaces, all-apart, apart-push, all-push}
use Rattle.journal.proofs.RecoverRefusalLemmas.{may-recover, MayReturn, may-return, placed_recovered}

-- a client with one socket more, and these entries at the end of what waits for it
abbrev pub with_return : Socket → List Entry → PlainClient → PlainClient
with_return k es known = with_entries es (plus_socket k known)

some-or : (b : Bool) (k : Socket) (o : Option Socket) → is_some (if b then Some k else o) ≡ (b || is_some o)
some-or true k o = refl
some-or false k o = refl

-- all of these entries are for one client
for-client : (c q : ℕ) (b : Bool) → (c == q) ≡ b → (es : List Entry) → entries_for q (map (λ e. (c, e)) es) ≡ (if b then es else [])
for-client c q true e [] = refl
for-client c q false e [] = refl
for-client c q true e (x ∷ es) = rw e (ap (λ l. x ∷ l) (for-client c q true e es))
for-client c q false e (x ∷ es) = rw e (for-client c q false e es)

all-known : (P : ℕ → Type 0) (c : ℕ) → P c → (es : List Entry) → AllByRecursion (λ (p : ℕ × Entry). P p.0) (map (λ e. (c, e)) es)
all-known P c h [] = tt
all-known P c h (x ∷ es) = (h, all-known P c h es)

module _ (base : PlainBase) (limits : Limits) (r : PlainRecovery) (at : ℕ) (before : List Step) where
  abbrev step : Step
  step = record { at = at; what = Recovered r }

  -- what it puts
  abbrev pub its_entries : List Entry
  its_entries = answer limits r.socket ∷ entries_of (log base limits before) r.missed

  sockets-recovered : sockets base (step ∷ before) ≡ sockets base before ++ r.socket ∷ []
  unfolding sockets
  sockets-recovered = ap (λ l. l ++ r.socket ∷ []) (filter-all (λ (l : Socket). not false) (sockets base before) (λ l. refl))

  with-recovered : (id : Socket → ℕ) (x : ℕ) → socket_with id base before (id r.socket) ≡ None → socket_with id base (step ∷ before) x ≡ (if id r.socket == x then Some r.socket else socket_with id base before x)
  unfolding socket_with
  with-recovered id x none = ap (find (has_id id x)) sockets-recovered ∙ find-push id r.socket x (sockets base before) none

  of-recovered : (q : ℕ) → sockets_of base (step ∷ before) q ≡ sockets_of base before q ++ (if r.socket.client == q then r.socket ∷ [] else [])
  unfolding sockets_of
  of-recovered q = ap (filter (λ (l : Socket). l.client == q)) sockets-recovered ∙ filter-append (λ (l : Socket). l.client == q) (sockets base before) (r.socket ∷ [])

  waits-recovered : IsLegal base limits before → (q : ℕ) (b : Bool) → (r.socket.client == q) ≡ b → waiting base limits (step ∷ before) q ≡ waiting base limits before q ++ (if b then its_entries else [])
  unfolding put
  waits-recovered legal q b e = waiting-step base limits step before legal q refl ∙ ap (λ l. waiting base limits before q ++ l) (for-client r.socket.client q b e its_entries)

  recovered-at : IsLegal base limits before → (q : ℕ) (b : Bool) → (r.socket.client == q) ≡ b
      → client_at base limits (step ∷ before) q ≡ (if b then option_map (with_return r.socket its_entries) (client_at base limits before q) else client_at base limits before q)
  recovered-at legal q true e =
      rw (is_open-quiet base step before refl (λ c. refl) q, of-recovered q, waits-recovered legal q true e, e) (on (is_open base before q))
    where
      on : (o : Bool) → (if o then Some (record { sockets = sockets_of base before q ++ r.socket ∷ []; outbox = record { waiting = waiting base limits before q ++ its_entries; capacity = limits.capacity; bytes = limits.bytes } }) else None)
          ≡ option_map (with_return r.socket its_entries) (if o then Some (record { sockets = sockets_of base before q; outbox = record { waiting = waiting base limits before q; capacity = limits.capacity; bytes = limits.bytes } }) else None)
      on true = refl
      on false = refl
  recovered-at legal q false e =
      rw (is_open-quiet base step before refl (λ c. refl) q, of-recovered q, waits-recovered legal q false e, e, append-nil, append-nil) refl

  sessions-recovered : sessions base limits (step ∷ before) ≡ filter (λ (s : PlainSaved). not (s.pid == r.socket.pid)) (sessions base limits before)
  unfolding sessions
  sessions-recovered = refl

  calls-recovered : log_calls base limits (step ∷ before) ≡ log_calls base limits before
  unfolding log_calls
  calls-recovered = refl

  log-recovered : log base limits (step ∷ before) ≡ log base limits before
  unfolding log log_calls
  log-recovered = refl

  recovered-fields : (now newest : ℕ) (find find' : ℕ → Option PlainClient) (seat seat' : ℕ → Option Socket) (is_pid is_pid' : ℕ → Bool) (sets sets' : RoomSets) (table table' : TableContents) (packets : LogContents)
      → at ≡ max now newest
      → Fields base limits find seat is_pid sets table packets newest before → IsLegal base limits before → MayReturn base limits before r.socket r.rooms
      → ((q : ℕ) → find' q ≡ (if r.socket.client == q then option_map (with_return r.socket its_entries) (find q) else find q))
      → ((s : ℕ) → seat' s ≡ (if r.socket.sid == s then Some r.socket else seat s))
      → ((p : ℕ) → is_pid' p ≡ ((r.socket.pid == p) || is_pid p))
      → sets' ≡ room_maps.with_socket_in sets r.socket.sid r.rooms
      → table' ≡ removed table r.socket.pid
      → Fields base limits find' seat' is_pid' sets' table' packets at (step ∷ before)
  unfolding moment
  recovered-fields now newest find find' seat seat' is_pid is_pid' sets sets' table table' packets is was legal may puts seats pids change out = record {
    clients = λ q. puts q ∙ ap (λ o. if r.socket.client == q then option_map (with_return r.socket its_entries) o else o) (was.clients q) ∙ sym (recovered-at legal q (r.socket.client == q) refl);
    seats = λ s. seats s ∙ ap (λ o. if r.socket.sid == s then Some r.socket else o) (was.seats s) ∙ sym (with-recovered sid_of s may.new_sid);
    pids = λ p. pids p ∙ ap (λ b. (r.socket.pid == p) || b) (was.pids p) ∙ sym (some-or (r.socket.pid == p) r.socket (socket_with pid_of base before p)) ∙ sym (ap is_some (with-recovered pid_of p may.new_pid));
    rooms_are = rooms-step base limits step before sets sets' was.rooms_are change;
    saved_is = out ∙ ap (λ t. removed t r.socket.pid) was.saved_is ∙ (λ i. record { limit = limits.saved; sessions = sessions-same i });
    log_is = was.log_is ∙ (λ i. record { limit = limits.log; bytes = limits.log_bytes; next = next-same i; last = packets.last; entries = log-same i });
    log_last = omega (arith, was.log_last, is);
    last = refl;
  }
    where
      sessions-same : filter (λ (s : PlainSaved). not (s.pid == r.socket.pid)) (sessions base limits before) ≡ sessions base limits (step ∷ before)
      sessions-same = sym sessions-recovered

      next-same : next base before ≡ next base (step ∷ before)
      next-same = sym (next-quiet base limits step before refl)

      log-same : log base limits before ≡ log base limits (step ∷ before)
      log-same = sym log-recovered

  -- the new socket, and no other, is in rooms now
  seated-recovered : (s : ℕ) → socket_with sid_of base before r.socket.sid ≡ None → is_socket (rooms base before) s ≡ is_connected sid_of base before s
      → is_socket (room_maps.with_socket_in (rooms base before) r.socket.sid r.rooms) s ≡ is_connected sid_of base (step ∷ before) s
  seated-recovered s none was =
      is_socket-with_socket_in (rooms base before) r.socket.sid r.rooms s
      ∙ ap (λ b. (r.socket.sid == s) || b) was
      ∙ sym (some-or (r.socket.sid == s) r.socket (socket_with sid_of base before s))
      ∙ sym (ap is_some (with-recovered sid_of s none))

  balance : IsLegal base limits before → IsAllowed base limits before step (Recovered r) → IsSound base limits before → is_open base before r.socket.client ≡ true
      → AllByRecursion (λ (p : ℕ × Entry). is_open base before p.0 ≡ true) (put base limits before (Recovered r))
  unfolding put
  balance legal allowed was known = all-known (λ c. is_open base before c ≡ true) r.socket.client known its_entries

  recovered-sound : IsLegal base limits before → IsAllowed base limits before step (Recovered r) → IsSound base limits before → moment base before ≤ at
      → AreConsistent (room_maps.with_socket_in (rooms base before) r.socket.sid r.rooms) → IsSound base limits (step ∷ before)
  unfolding socket_with socket_of sockets_of rooms moment
  recovered-sound legal allowed was late agree =
      let k = r.socket in
      let known = may-recover base limits before k.client k.space k.pid r.offset at (unrefused (recover_refusal base limits before k.client k.space k.pid r.offset at) (is_spent base limits before (Recovered r)) (sym allowed.0)) in
      let may = may-return base limits before r was allowed.1 in
      let ks = sockets-recovered in
      let ss = sessions-recovered in
      let rest : PlainSaved → Bool = λ s. not (s.pid == k.pid) in
      record {
        few_spaces = was.few_spaces;
        clients_once = subst (IsDistinct nat_eq) (sym (clients-quiet base step before refl (λ c. refl))) was.clients_once;
        sockets_apart = subst (EachTwo AreApart) (sym ks) (apart-push k (sockets base before) was.sockets_apart
            (all-apart k (sockets base before) (apart-ids sid_of k.sid (sockets base before) may.new_sid) (apart-ids pid_of k.pid (sockets base before) may.new_pid) (apart-spaces k.client k.space (sockets base before) known.alone)));
        of_open_clients = subst (AllByRecursion (λ (l : Socket). is_open base (step ∷ before) l.client ≡ true)) (sym ks)
            (all-push (λ (l : Socket). is_open base (step ∷ before) l.client ≡ true) (sockets base before) k
            (all-open base limits step before (λ c e. is_open-quiet base step before refl (λ c. refl) c ∙ e) (sockets base before) was.of_open_clients)
            (is_open-quiet base step before refl (λ c. refl) k.client ∙ known.known));
        in_spaces = subst (AllByRecursion (λ (l : Socket). is_space limits l.space ≡ true)) (sym ks) (all-push (λ (l : Socket). is_space limits l.space ≡ true) (sockets base before) k was.in_spaces known.has_space);
        seated = λ s. seated-recovered s may.new_sid (was.seated s);
        rooms_agree = agree;
        apart = subst (AllByRecursion (IsAway (sockets base (step ∷ before)))) (sym ss)
            (subst (λ l. AllByRecursion (IsAway l) (filter rest (sessions base limits before))) (sym ks)
            (away-push k (sockets base before) (filter rest (sessions base limits before)) may.unsaved_sid may.unsaved_pid (all-filter (IsAway (sockets base before)) rest (sessions base limits before) was.apart)));
        sessions_differ = subst (EachTwo DifferInIds) (sym ss) (each-filter DifferInIds rest (sessions base limits before) was.sessions_differ);
        few_rooms = subst (AllByRecursion (λ (s : PlainSaved). are_too_many s.sid s.rooms ≡ false)) (sym ss) (all-filter (λ (s : PlainSaved). are_too_many s.sid s.rooms ≡ false) rest (sessions base limits before) was.few_rooms);
        offsets_rise = rw (number-quiet base limits step before refl, log-recovered) was.offsets_rise;
        log_rises = rw calls-recovered was.log_rises;
        log_late = rw calls-recovered (omega (arith, was.log_late, late));
        conserved = conserved-step base limits step before was.conserved
            (let f = flow-quiet base limits step before legal allowed was.clients_once refl (λ c. refl) (λ c. refl) (balance legal allowed was known.known) (sum-zero (λ c. taken_by c (Recovered r)) (open_clients base before) (λ c e. refl)) in omega (arith, f));
      }

-- ---- the command

pub recovered : (base : PlainBase) (limits : Limits) (r : PlainRecovery) (now newest n : ℕ) (find find' : ℕ → Option PlainClient) (seat seat' : ℕ → Option Socket) (is_pid is_pid' : ℕ → Bool) (sets sets' : RoomSets) (table table' : TableContents) (packets : LogContents) (counts : Counts) (before : List Step) (es : List Entry)
    → IsHub base limits find seat is_pid sets table packets newest counts before
    → None ≡ or_spent (recover_refusal base limits before r.socket.client r.socket.space r.socket.pid r.offset (max now (moment base before))) (is_spent base limits before (Recovered r))
    → RightRecovery base limits before r
    → es ≡ answer limits r.socket ∷ entries_of (log base limits before) r.missed → n ≡ length es
    → ((q : ℕ) → find' q ≡ (if r.socket.client == q then option_map (with_return r.socket es) (find q) else find q))
    → ((s : ℕ) → seat' s ≡ (if r.socket.sid == s then Some r.socket else seat s))
    → ((p : ℕ) → is_pid' p ≡ ((r.socket.pid == p) || is_pid p))
    → sets' ≡ room_maps.with_socket_in sets r.socket.sid r.rooms → AreConsistent sets'
    → table' ≡ removed table r.socket.pid
    → IsHub base limits find' seat' is_pid' sets' table' packets (max now newest) (record { commands = counts.commands + 1; placed = counts.placed + n; dropped = counts.dropped + 0; taken = counts.taken + 0; discarded = counts.discarded + 0 }) (record { at = max now newest; what = Recovered r } ∷ before)
recovered base limits r now newest n find find' seat seat' is_pid is_pid' sets sets' table table' packets counts before es was accepted right is number puts seats pids change consistent out =
    let at : ℕ = max now newest in
    let step : Step = record { at = at; what = Recovered r } in
    let late : moment base before ≤ at = rw (← was.0.last) (omega arith) in
    let agree : AreConsistent (room_maps.with_socket_in (rooms base before) r.socket.sid r.rooms) = subst AreConsistent (change ∙ ap (λ v. room_maps.with_socket_in v r.socket.sid r.rooms) was.0.rooms_are) consistent in
    let refused : ℕ → Option _ = λ m. or_spent (recover_refusal base limits before r.socket.client r.socket.space r.socket.pid r.offset (max now m)) (is_spent base limits before (Recovered r)) in
    let fine : IsAllowed base limits before step step.what = (ap refused was.0.last ∙ sym accepted, right) in
    let may = may-return base limits before r was.2 right in
    let all : (q : ℕ) → find' q ≡ (if r.socket.client == q then option_map (with_return r.socket (its_entries base limits r at before)) (find q) else find q)
    = λ q. puts q ∙ ap (λ l. if r.socket.client == q then option_map (with_return r.socket l) (find q) else find q) is in (
      recovered-fields base limits r at before now newest find find' seat seat' is_pid is_pid' sets sets' table table' packets refl was.0 was.1 may all seats pids change out,
      legal-step base limits step before fine late was.1,
      recovered-sound base limits r at before was.1 fine was.2 late agree,
      counted base limits before counts was.3 was.2.conserved step n 0 0 0 (placed_recovered base limits before r es is ∙ sym number) refl refl refl,
    )

-- ---- the maps

-- a socket more, and then its entries
pub returned : (find mid new : ℕ → Option PlainClient) (c : ℕ) (k : Socket) (es : List Entry)
    → ((q : ℕ) → mid q ≡ (if c == q then option_map (plus_socket k) (find q) else find q))
    → ((q : ℕ) → new q ≡ (if c == q then option_map (with_entries es) (mid q) else mid q))
    → (q : ℕ) → new q ≡ (if c == q then option_map (with_return k es) (find q) else find q)
returned find mid new c k es first second q = second q ∙ ap (λ o. if c == q then option_map (with_entries es) o else o) (first q) ∙ on (c == q) (find q)
  where
    on : (b : Bool) (o : Option PlainClient) → (if b then option_map (with_entries es) (if b then option_map (plus_socket k) o else o) else (if b then option_map (plus_socket k) o else o))
        ≡ (if b then option_map (with_return k es) o else o)
    on true None = refl
    on true (Some x) = refl
    on false o = refl

-- there is space for all in the client's outbox
module _ (base : PlainBase) (limits : Limits) (before : List Step) (k : Socket) (es : List Entry) (place : have_no_space limits (waiting base limits before k.client) es ≡ false) (find mid : ℕ → Option PlainClient)
    (was : (c : ℕ) → find c ≡ client_at base limits before c) (more : (q : ℕ) → mid q ≡ (if k.client == q then option_map (plus_socket k) (find q) else find q)) where
  in-both : (P : PlainClient → Type 0) → ((ks : List Socket) → P (record { sockets = ks; outbox = record { waiting = waiting base limits before k.client; capacity = limits.capacity; bytes = limits.bytes } })) → IfSome (mid k.client) P
  in-both P h = subst (λ o. IfSome o P) (sym (more k.client ∙ ap (λ o. if k.client == k.client then option_map (plus_socket k) o else o) (was k.client))) (on (k.client == k.client) (is_open base before k.client))
    where
      on : (b o : Bool) → IfSome (if b then option_map (plus_socket k) (if o then Some (record { sockets = sockets_of base before k.client; outbox = record { waiting = waiting base limits before k.client; capacity = limits.capacity; bytes = limits.bytes } }) else None)
          else (if o then Some (record { sockets = sockets_of base before k.client; outbox = record { waiting = waiting base limits before k.client; capacity = limits.capacity; bytes = limits.bytes } }) else None)) P
      on true true = h (sockets_of base before k.client ++ k ∷ [])
      on true false = tt
      on false true = h (sockets_of base before k.client)
      on false false = tt

  pub places-fit : (n : ℕ) → n ≡ length es → IfSome (mid k.client) (λ (known : PlainClient). length known.outbox.waiting + n ≤ known.outbox.capacity)
  places-fit n is = in-both (λ (known : PlainClient). length known.outbox.waiting + n ≤ known.outbox.capacity) (λ ks. grind (arith, nat_tests, place, is))

  pub bytes-fit : IfSome (mid k.client) (λ (known : PlainClient). total_size known.outbox.waiting + total_size es ≤ known.outbox.bytes)
  bytes-fit = in-both (λ (known : PlainClient). total_size known.outbox.waiting + total_size es ≤ known.outbox.bytes) (λ ks. grind (arith, nat_tests, place))
