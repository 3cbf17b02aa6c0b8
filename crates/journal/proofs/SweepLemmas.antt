-- What a sweep makes of a hub.
use Rattle.std.proofs.Common.{◌≡◌, ℕ, ◌+◌, ◌≤◌, Bool, true, false, List, ◌∷◌, length, filter, max, refl, sym, ◌∙◌, ap, subst, arith, Option, None, nat_eq}
use Rattle.std.specs.Prelude.{is_some}
use Rattle.std.specs.List.{take_while, IsDistinct, AllByRecursion}
use Rattle.room_maps.specs.Membership.{RoomSets, AreConsistent, is_socket, are_too_many}
use Rattle.recovery.specs.Expiry.{is_outdated}
use Rattle.recovery.specs.PacketLog.{PlainLogged, LogContents, IsRun, Rises, latest, is_fresh, swept}
use Rattle.recovery.specs.SavedTable.{PlainSaved, TableContents, is_alive, table_swept}
use Rattle.recovery.proofs.PacketLogLemmas.{kept-swept, kept_rises, run_dropped, swept_front}
use Rattle.journal.specs.declared.socket.Socket.{Socket}
use Rattle.journal.specs.declared.step.Step.{Step}
use Rattle.journal.specs.declared.step.What.TheVariants.{Swept}
use Rattle.journal.specs.declared.totals.Counts.{Counts}
use Rattle.journal.specs.Plain.{PlainBase, Limits, PlainClient}
use Rattle.journal.specs.Journal.{moment}
use Rattle.journal.specs.Membership.{open_clients, is_open, sockets, sid_of, pid_of, rooms, is_space}
use Rattle.journal.specs.Sessions.{sessions}
use Rattle.journal.specs.Log.{log, log_calls, next, next_number}
use Rattle.journal.specs.Outboxes.{put, taken_by}
use Rattle.journal.specs.Totals.{placed_by, is_spent}
use Rattle.journal.specs.Refusals.{or_spent}
use Rattle.journal.specs.Legal.{IsAllowed, IsLegal, IsSound, IsAway, EachTwo, AreApart, DifferInIds}
use Rattle.journal.specs.Fields.{Fields, Counted, CanCount, client_at}
use Rattle.journal.proofs.SumsLemmas.{sum-zero}
use Rattle.journal.proofs.MembershipLemmas.{clients-quiet, is_open-quiet, sockets-quiet, sockets_of-quiet, socket_with-quiet}
use Rattle.journal.proofs.OutboxesLemmas.{waiting-quiet}
use Rattle.journal.proofs.TotalsLemmas.{conserved-step, flow-quiet}
use Rattle.journal.proofs.SessionsLemmas.{number-quiet, next-quiet}
use Rattle.journal.proofs.HubLemmas.{legal-step, rooms-step, all-open}
use Rattle.journal.proofs.CountsLemmas.{counted, can, unspent}
use Rattle.journal.proofs.CommandLemmas.{IsHub}
use Rattle.journal.proofs.EndLemmas.{all-filter, each-filter}

-- ---- a hub is swept

abbrev pub sweep : ℕ → Step
sweep at = record { at = at; what = Swept }

module _ (base : PlainBase) (limits : Limits) (at : ℕ) (before : List Step) where
  pub log-swept : Rises (log_calls base limits before) → log base limits (sweep at ∷ before) ≡ filter (is_fresh limits.keep at) (log base limits before)
  unfolding log log_calls
  log-swept rises = kept-swept limits.log limits.log_bytes limits.keep at (log_calls base limits before) rises

  pub sessions-swept : sessions base limits (sweep at ∷ before) ≡ filter (is_alive limits.keep at) (sessions base limits before)
  unfolding sessions
  sessions-swept = refl

  client-swept : IsLegal base limits before → (c : ℕ) → client_at base limits (sweep at ∷ before) c ≡ client_at base limits before c
  unfolding put
  client-swept legal c =
      rw (is_open-quiet base (sweep at) before refl (λ c. refl) c, sockets_of-quiet base (sweep at) before refl (λ k. refl) c, waiting-quiet base limits (sweep at) before legal c refl refl refl) refl

  pub swept-fields : (find : ℕ → Option PlainClient) (seat : ℕ → Option Socket) (is_pid : ℕ → Bool) (sets : RoomSets) (table table' : TableContents) (packets packets' : LogContents) (newest : ℕ)
      → Fields base limits find seat is_pid sets table packets newest before → IsLegal base limits before → Rises (log_calls base limits before) → newest ≤ at
      → table' ≡ table_swept table limits.keep at → packets' ≡ swept packets limits.keep (max packets.last at)
      → Fields base limits find seat is_pid sets table' packets' at (sweep at ∷ before)
  unfolding moment
  swept-fields find seat is_pid sets table table' packets packets' newest was legal rises late saved logged =
      let now : max packets.last at ≡ at = omega (arith, was.log_last, late) in
      let log_now : packets' ≡ swept packets limits.keep at = logged ∙ ap (swept packets limits.keep) now in
      let last : packets'.last ≡ at = ap (λ (l : LogContents). l.last) log_now in
      record {
        clients = λ c. was.clients c ∙ sym (client-swept legal c);
        seats = λ s. was.seats s ∙ sym (socket_with-quiet base (sweep at) before sid_of refl (λ k. refl) s);
        pids = λ p. was.pids p ∙ sym (ap is_some (socket_with-quiet base (sweep at) before pid_of refl (λ k. refl) p));
        rooms_are = rooms-step base limits (sweep at) before sets sets was.rooms_are refl;
        saved_is = saved ∙ ap (λ t. table_swept t limits.keep at) was.saved_is ∙ ap (λ ss. record { limit = limits.saved; sessions = ss }) (sym sessions-swept);
        log_is = log_now
            ∙ ap (λ (l : LogContents). swept l limits.keep at) was.log_is
            ∙ sym (λ i. record { limit = limits.log; bytes = limits.log_bytes; next = next-quiet base limits (sweep at) before refl i; last = last i; entries = log-swept rises i });
        log_last = omega (arith, last);
        last = refl;
      }

  -- what a sweep takes of the log stands in front, so the offsets still rise by one
  run-swept : IsSound base limits before → IsRun (next_number base before) (filter (is_fresh limits.keep at) (log base limits before))
  unfolding log
  run-swept was =
      subst (IsRun (next_number base before)) (swept_front limits.keep at (latest (log_calls base limits before)) (log base limits before) (kept_rises limits.log limits.log_bytes (log_calls base limits before) was.log_rises))
      (run_dropped (next_number base before) (length (take_while (λ (e : PlainLogged). is_outdated limits.keep at e.at) (log base limits before))) (log base limits before) was.offsets_rise)

  rooms-same : rooms base (sweep at ∷ before) ≡ rooms base before
  unfolding rooms
  rooms-same = refl

  pub swept-sound : IsLegal base limits before → IsAllowed base limits before (sweep at) Swept → IsSound base limits before → moment base before ≤ at → IsSound base limits (sweep at ∷ before)
  unfolding moment Rises latest log_calls put
  swept-sound legal fine was late =
      let cs = clients-quiet base (sweep at) before refl (λ c. refl) in
      let ks = sockets-quiet base (sweep at) before refl (λ k. refl) in
      let flows = flow-quiet base limits (sweep at) before legal fine was.clients_once refl (λ c. refl) (λ c. refl) tt (sum-zero (λ c. taken_by c Swept) (open_clients base before) (λ c e. refl)) in
      record {
        few_spaces = was.few_spaces;
        clients_once = subst (IsDistinct nat_eq) (sym cs) was.clients_once;
        sockets_apart = subst (EachTwo AreApart) (sym ks) was.sockets_apart;
        of_open_clients = subst (AllByRecursion (λ (k : Socket). is_open base (sweep at ∷ before) k.client ≡ true)) (sym ks)
            (all-open base limits (sweep at) before (λ c e. is_open-quiet base (sweep at) before refl (λ c. refl) c ∙ e) (sockets base before) was.of_open_clients);
        in_spaces = subst (AllByRecursion (λ (k : Socket). is_space limits k.space ≡ true)) (sym ks) was.in_spaces;
        seated = λ s. ap (λ v. is_socket v s) (rooms-same) ∙ was.seated s ∙ sym (ap is_some (socket_with-quiet base (sweep at) before sid_of refl (λ k. refl) s));
        rooms_agree = subst AreConsistent (sym rooms-same) was.rooms_agree;
        apart = subst (λ l. AllByRecursion (IsAway l) (sessions base limits (sweep at ∷ before))) (sym ks)
            (subst (AllByRecursion (IsAway (sockets base before))) (sym sessions-swept) (all-filter (IsAway (sockets base before)) (is_alive limits.keep at) (sessions base limits before) was.apart));
        sessions_differ = subst (EachTwo DifferInIds) (sym sessions-swept) (each-filter DifferInIds (is_alive limits.keep at) (sessions base limits before) was.sessions_differ);
        few_rooms = subst (AllByRecursion (λ (s : PlainSaved). are_too_many s.sid s.rooms ≡ false)) (sym sessions-swept)
            (all-filter (λ (s : PlainSaved). are_too_many s.sid s.rooms ≡ false) (is_alive limits.keep at) (sessions base limits before) was.few_rooms);
        offsets_rise = subst (λ n. IsRun n (log base limits (sweep at ∷ before))) (sym (number-quiet base limits (sweep at) before refl)) (subst (IsRun (next_number base before)) (sym (log-swept was.log_rises)) (run-swept was));
        log_rises = (omega (arith, was.log_late, late), was.log_rises);
        log_late = omega (arith, was.log_late, late);
        conserved = conserved-step base limits (sweep at) before was.conserved (omega (arith, flows));
      }

module _ (base : PlainBase) (limits : Limits) where
  pub puts_swept : (before : List Step) → placed_by base limits before Swept ≡ 0
  unfolding put
  puts_swept before = refl

  pub swept-hub : (now newest at : ℕ) (find : ℕ → Option PlainClient) (seat : ℕ → Option Socket) (is_pid : ℕ → Bool) (sets : RoomSets) (table table' : TableContents) (packets packets' : LogContents) (counts : Counts) (before : List Step)
      → IsHub base limits find seat is_pid sets table packets newest counts before
      → None ≡ or_spent None (is_spent base limits before Swept)
      → at ≡ max now newest → table' ≡ table_swept table limits.keep at → packets' ≡ swept packets limits.keep (max packets.last at)
      → IsHub base limits find seat is_pid sets table' packets' (max now newest) (record { commands = counts.commands + 1; placed = counts.placed + 0; dropped = counts.dropped + 0; taken = counts.taken + 0; discarded = counts.discarded + 0 }) (sweep (max now newest) ∷ before)
  swept-hub now newest at find seat is_pid sets table table' packets packets' counts before was accepted is saved logged =
      let late : moment base before ≤ max now newest = rw (← was.0.last) (omega arith) in
      let fine : IsAllowed base limits before (sweep (max now newest)) Swept = (sym accepted, tt) in (
        swept-fields base limits (max now newest) before find seat is_pid sets table table' packets packets' newest was.0 was.1 was.2.log_rises (omega arith)
            (saved ∙ ap (table_swept table limits.keep) is) (logged ∙ ap (λ t. swept packets limits.keep (max packets.last t)) is),
        legal-step base limits (sweep (max now newest)) before fine late was.1,
        swept-sound base limits (max now newest) before was.1 fine was.2 late,
        counted base limits before counts was.3 was.2.conserved (sweep (max now newest)) 0 0 0 0 (puts_swept before) refl refl refl,
      )

  pub can_sweep : (before : List Step) (counts : Counts) → Counted base limits counts before → IsSound base limits before → None ≡ or_spent None (is_spent base limits before Swept) → CanCount counts 0 0 0 0
  can_sweep before counts was sound accepted = can base limits before counts was sound.conserved Swept 0 0 0 0 (puts_swept before) refl refl refl (unspent None (is_spent base limits before Swept) accepted)

  -- how many entries and sessions are dropped
  pub dropped-log : (now newest at dropped : ℕ) (packets packets' : LogContents) (before : List Step) → Rises (log_calls base limits before) → packets ≡ record { limit = limits.log; bytes = limits.log_bytes; next = next base before; last = packets.last; entries = log base limits before }
      → packets.last ≤ newest → at ≡ max now newest → packets' ≡ swept packets limits.keep (max packets.last at) → length packets'.entries + dropped ≡ length packets.entries
      → length (log base limits (sweep (max now newest) ∷ before)) + dropped ≡ length (log base limits before)
  dropped-log now newest at dropped packets packets' before rises was late is logged count =
      let time : max packets.last at ≡ max now newest = omega (arith, late, is) in
      let after : packets'.entries ≡ log base limits (sweep (max now newest) ∷ before)
      = ap (λ (l : LogContents). l.entries) logged ∙ (λ i. filter (is_fresh limits.keep (time i)) ((was i).entries)) ∙ sym (log-swept base limits (max now newest) before rises) in
      let entries : packets.entries ≡ log base limits before = ap (λ (l : LogContents). l.entries) was in
      ap (λ es. length es + dropped) (sym after) ∙ count ∙ ap length entries

  pub dropped-saved : (now newest at dropped : ℕ) (table table' : TableContents) (before : List Step) → table ≡ record { limit = limits.saved; sessions = sessions base limits before }
      → at ≡ max now newest → table' ≡ table_swept table limits.keep at → length table'.sessions + dropped ≡ length table.sessions
      → length (sessions base limits (sweep (max now newest) ∷ before)) + dropped ≡ length (sessions base limits before)
  dropped-saved now newest at dropped table table' before was is saved count =
      let after : table'.sessions ≡ sessions base limits (sweep (max now newest) ∷ before)
      = ap (λ (t : TableContents). t.sessions) saved ∙ (λ i. filter (is_alive limits.keep (is i)) ((was i).sessions)) ∙ sym (sessions-swept base limits (max now newest) before) in
      let entries : table.sessions ≡ sessions base limits before = ap (λ (t : TableContents). t.sessions) was in
      ap (λ ss. length ss + dropped) (sym after) ∙ count ∙ ap length entries
