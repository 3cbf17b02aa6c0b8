-- What a hub knows of a recovery that it makes.
use Rattle.hub_state.specs.Seats.{seat_at}
use Rattle.std.proofs.Common.{◌≡◌, ℕ, ◌==◌, ◌+◌, ◌++◌, ◌||◌, Bool, true, false, max, length, List, ◌∷◌, sym, ◌∙◌, ap, subst, Option, None, Some, if◌then◌else◌, nat_eq}
use Rattle.std.specs.Prelude.{is_some}
use Rattle.std.specs.List.{find}
use Rattle.std.specs.Option.{option_map}
use Rattle.std.specs.Ordering.{nat_cmp}
use Rattle.std.specs.HashMap.{get}
use Rattle.std.specs.BTreeSet as sorted
use Rattle.room_maps.specs.Membership as room_maps
use Rattle.room_maps.specs.Membership.{RoomSets, is_socket, are_too_many, AreConsistent}
use Rattle.recovery.specs.PacketLog.{IsRun, later_than}
use Rattle.recovery.specs.SavedTable.{PlainSaved, TableContents, removed}
use Rattle.terms.specs.declared.entry.Entry.{Entry}
use Rattle.journal.specs.declared.socket.Socket.{Socket}
use Rattle.journal.specs.declared.step.What.TheVariants.{Recovered}
use Rattle.journal.specs.declared.step.Step.{Step}
use Rattle.journal.specs.declared.error.HubError.{HubError}
use Rattle.journal.specs.declared.error.HubError.TheVariants.{OutboxFull}
use Rattle.journal.specs.Plain.{PlainBase, Limits, PlainRecovery, PlainClient}
use Rattle.journal.specs.Journal.{History, moment, moment_at}
use Rattle.journal.specs.Membership.{is_open, is_space, socket_of}
use Rattle.journal.specs.Sessions.{sessions, session_with}
use Rattle.journal.specs.Log.{log, next_number}
use Rattle.journal.specs.Outboxes.{answer, waiting, entries_of}
use Rattle.journal.specs.Recovery.{brought_back, recovery_of, gets, with_entries}
use Rattle.journal.specs.Totals.{placed_by, is_spent}
use Rattle.journal.specs.Refusals.{or_spent, session_refusal, have_no_space, recovered_entries, recover_refusal}
use Rattle.journal.specs.Legal.{RightRecovery}
use Rattle.journal.specs.Fields.{CanCount, held_sockets, plus_socket}
use Rattle.journal.proofs.CountsLemmas.{unrefused}
use Rattle.journal.proofs.SocketsLemmas.{free-there}
use Rattle.journal.proofs.CommandLemmas.{IsHub}
use Rattle.journal.proofs.RecoverLemmas.{found-pid}
use Rattle.journal.proofs.RecoverRefusalLemmas.{may-recover, may-return, place-right, entries-right, entries-put, placed_recovered, placed_found, can_recover, decided, session-space, or-full, or-accepted, is-recovery, still-accepted, still-right}
use Rattle.journal.proofs.RecoverStepLemmas.{recovered, returned, with_return}
use Rattle.hub_state.specs.declared.state.State.TheInside.{Inside}
use Rattle.hub_state.specs.declared.state.recover.FoundSession.{FoundSession}
use Rattle.hub_state.specs.Inside.{history_of, Describes}
use Rattle.hub_state.proofs.EndedLemmas.{hub-of}
use Rattle.hub_state.specs.Recovering.{socket_again, gets_back}

-- ---- a session that was found

-- what its recovery puts is the answer, and then what it gets of the broadcasts past the offset
pub puts-back : (base : PlainBase) (limits : Limits) (journal : List Step) (client : ℕ) (found : FoundSession) (offset : ℕ) → IsRun (next_number base journal) (log base limits journal)
    → found.front.now ++ found.back.now ≡ later_than offset (log base limits journal)
    → recovered_entries base limits journal (socket_again client found.session.now) offset found.session.now.rooms ≡ answer limits (socket_again client found.session.now) ∷ gets_back found
puts-back base limits journal client found offset run later =
    entries-put base limits journal (socket_again client found.session.now) offset found.session.now.rooms run
    ∙ ap (λ l. answer limits (socket_again client found.session.now) ∷ gets found.session.now.space found.session.now.rooms l) (sym later)

-- nothing speaks against it but want of places and a count that would pass the greatest u64
module _ (base : PlainBase) (limits : Limits) (journal : List Step) (client place pid offset at : ℕ) (s : PlainSaved)
    (known : is_open base journal client ≡ true) (has_space : is_space limits place ≡ true) (alone : socket_of base journal client place ≡ None)
    (refused : session_refusal limits (log base limits journal) (session_with pid (sessions base limits journal)) place offset at ≡ None)
    (found : session_with pid (sessions base limits journal) ≡ Some s) where
  abbrev puts : List Entry
  puts = recovered_entries base limits journal (socket_again client s) offset s.rooms

  abbrev refusal : Option HubError
  refusal = or_spent (recover_refusal base limits journal client place pid offset at) (is_spent base limits journal (Recovered (recovery_of base limits journal client place pid offset)))

  pub has-no-place : have_no_space limits (waiting base limits journal client) puts ≡ true → refusal ≡ Some OutboxFull
  has-no-place full = sym (or-full _ _ (decided base limits journal client place pid offset at s true known has_space alone refused found full))

  pub by-count : (n : ℕ) → have_no_space limits (waiting base limits journal client) puts ≡ false → length puts ≡ n → (o : Option HubError)
      → (placed_by base limits journal (Recovered (recovery_of base limits journal client place pid offset)) ≡ n → o ≡ or_spent None (is_spent base limits journal (Recovered (recovery_of base limits journal client place pid offset))))
      → refusal ≡ o
  by-count n fits number o told =
      let same_space = session-space base limits (session_with pid (sessions base limits journal)) s (log base limits journal) place offset at found refused in
      let same_pid = found-pid pid (sessions base limits journal) s found in
      sym (or-accepted _ o _ (decided base limits journal client place pid offset at s false known has_space alone refused found fits)
      (told (placed_found base limits journal client place pid offset n s found same_space same_pid number)))

-- what it brings with it is its recovery, which may be made
pub record IsReturn (h : History) (client place pid offset now : ℕ) (r : PlainRecovery) : Type 0 where
  pub is : r ≡ recovery_of h.base h.limits h.journal client place pid offset
  pub free : None ≡ or_spent (recover_refusal h.base h.limits h.journal client place pid offset (moment_at h now)) (is_spent h.base h.limits h.journal (Recovered (recovery_of h.base h.limits h.journal client place pid offset)))
  pub accepted : None ≡ or_spent (recover_refusal h.base h.limits h.journal r.socket.client r.socket.space r.socket.pid r.offset (moment_at h now)) (is_spent h.base h.limits h.journal (Recovered r))
  pub right : RightRecovery h.base h.limits h.journal r

pub is-return : (h : History) (client place pid offset at now : ℕ) (s : PlainSaved) (r : PlainRecovery) → session_with pid (sessions h.base h.limits h.journal) ≡ Some s
    → r ≡ brought_back client s.space s.pid offset (log h.base h.limits h.journal) s → at ≡ moment_at h now
    → or_spent (recover_refusal h.base h.limits h.journal client place pid offset at) (is_spent h.base h.limits h.journal (Recovered (recovery_of h.base h.limits h.journal client place pid offset))) ≡ None
    → IsReturn h client place pid offset now r
is-return h client place pid offset at now s r found is same accepted =
    let refusal : ℕ → Option HubError = λ at. or_spent (recover_refusal h.base h.limits h.journal client place pid offset at) (is_spent h.base h.limits h.journal (Recovered (recovery_of h.base h.limits h.journal client place pid offset))) in
    let may = may-recover h.base h.limits h.journal client place pid offset at (unrefused _ _ (sym accepted)) in
    record {
      is = is-recovery h.base h.limits h.journal client place pid offset s found r is may;
      free = sym accepted ∙ ap refusal same;
      accepted = still-accepted h.base h.limits h.journal client place pid offset s found r is may at (moment_at h now) same (sym accepted);
      right = still-right h.base h.limits h.journal client place pid offset s found r is may;
    }

-- ---- a recovery that is made

-- the recovery may be made, its socket and ids are new to the hub, and there is space for what it puts
pub record AsksToRecover (hub : Inside) (r : PlainRecovery) (k : Socket) (es : List Entry) (now : ℕ) : Type 0 where
  pub accepted : None ≡ or_spent (recover_refusal hub.base hub.limits (hub.records.steps.steps) r.socket.client r.socket.space r.socket.pid r.offset (max now (moment hub.base (hub.records.steps.steps)))) (is_spent hub.base hub.limits (hub.records.steps.steps) (Recovered r))
  pub right : RightRecovery hub.base hub.limits (hub.records.steps.steps) r
  pub same : k ≡ r.socket
  pub entries : es ≡ answer hub.limits r.socket ∷ entries_of (log hub.base hub.limits (hub.records.steps.steps)) r.missed
  pub counts : CanCount hub.records.counts (length es) 0 0 0
  pub alone : find (λ (l : Socket). l.space == k.space) (held_sockets (get nat_eq hub.clients k.client)) ≡ None
  pub free : seat_at hub.live.seats r.socket.sid ≡ None
  pub unused : sorted.contains nat_cmp hub.live.pids r.socket.pid ≡ false
  pub new : is_socket hub.live.rooms r.socket.sid ≡ false
  pub few : are_too_many r.socket.sid r.rooms ≡ false
  pub place : have_no_space hub.limits (waiting hub.base hub.limits (hub.records.steps.steps) k.client) es ≡ false

pub comes-back : (hub : Inside) (h : History) (r : PlainRecovery) (k : Socket) (es : List Entry) (now : ℕ) → Describes hub → history_of hub ≡ h → k ≡ r.socket
    → None ≡ or_spent (recover_refusal h.base h.limits h.journal r.socket.client r.socket.space r.socket.pid r.offset (moment_at h now)) (is_spent h.base h.limits h.journal (Recovered r))
    → RightRecovery h.base h.limits h.journal r
    → es ≡ recovered_entries h.base h.limits h.journal r.socket r.offset r.rooms
    → AsksToRecover hub r k es now
comes-back hub h r k es now holds is same accepted right puts =
    let base = hub.base in
    let limits = hub.limits in
    let journal = hub.records.steps.steps in
    let at = max now (moment base journal) in
    let accepted' : None ≡ or_spent (recover_refusal base limits journal r.socket.client r.socket.space r.socket.pid r.offset at) (is_spent base limits journal (Recovered r))
    = subst (λ (h : History). None ≡ or_spent (recover_refusal h.base h.limits h.journal r.socket.client r.socket.space r.socket.pid r.offset (moment_at h now)) (is_spent h.base h.limits h.journal (Recovered r))) (sym is) accepted in
    let right' : RightRecovery base limits journal r = subst (λ (h : History). RightRecovery h.base h.limits h.journal r) (sym is) right in
    let puts' : es ≡ recovered_entries base limits journal r.socket r.offset r.rooms = subst (λ (h : History). es ≡ recovered_entries h.base h.limits h.journal r.socket r.offset r.rooms) (sym is) puts in
    let entries = puts' ∙ entries-right base limits journal r right' in
    let unrefused' = unrefused (recover_refusal base limits journal r.socket.client r.socket.space r.socket.pid r.offset at) (is_spent base limits journal (Recovered r)) accepted' in
    let may = may-recover base limits journal r.socket.client r.socket.space r.socket.pid r.offset at unrefused' in
    let back = may-return base limits journal r holds.2 right' in
    record {
      accepted = accepted';
      right = right';
      same = same;
      entries = entries;
      counts = can_recover base limits journal hub.records.counts holds.3 holds.2 r at (length es) accepted' (placed_recovered base limits journal r es entries);
      alone = subst (λ (k : Socket). find (λ (l : Socket). l.space == k.space) (held_sockets (get nat_eq hub.clients k.client)) ≡ None) (sym same) (free-there base limits (get nat_eq hub.clients) journal r.socket.client r.socket.space holds.0.clients may.known may.alone);
      free = holds.0.seats r.socket.sid ∙ back.new_sid;
      unused = holds.0.pids r.socket.pid ∙ ap is_some back.new_pid;
      new = ap (λ sets. is_socket sets r.socket.sid) holds.0.rooms_are ∙ back.no_socket;
      few = back.few;
      place = subst (λ (k : Socket). have_no_space limits (waiting base limits journal k.client) es ≡ false) (sym same) (ap (λ l. have_no_space limits (waiting base limits journal r.socket.client) l) puts' ∙ place-right base limits journal r at unrefused' right');
    }

-- the hub with its socket, ids, rooms and entries, and with one step more
pub came-back : (hub : Inside) (r : PlainRecovery) (k : Socket) (es : List Entry) (now n : ℕ) (mid new : ℕ → Option PlainClient) (seat : ℕ → Option Socket) (is_pid : ℕ → Bool) (sets : RoomSets) (table : TableContents)
    → Describes hub → AsksToRecover hub r k es now → n ≡ length es
    → ((q : ℕ) → mid q ≡ (if k.client == q then option_map (plus_socket k) (get nat_eq hub.clients q) else get nat_eq hub.clients q))
    → ((q : ℕ) → new q ≡ (if k.client == q then option_map (with_entries es) (mid q) else mid q))
    → ((s : ℕ) → seat s ≡ (if r.socket.sid == s then Some r.socket else seat_at hub.live.seats s))
    → ((p : ℕ) → is_pid p ≡ ((r.socket.pid == p) || sorted.contains nat_cmp hub.live.pids p))
    → sets ≡ room_maps.with_socket_in hub.live.rooms r.socket.sid r.rooms → AreConsistent sets
    → table ≡ removed hub.saved k.pid
    → IsHub hub.base hub.limits new seat is_pid sets table hub.log (max now hub.records.last) (record { commands = hub.records.counts.commands + 1; placed = hub.records.counts.placed + n; dropped = hub.records.counts.dropped + 0; taken = hub.records.counts.taken + 0; discarded = hub.records.counts.discarded + 0 })
    (record { at = max now hub.records.last; what = Recovered r } ∷ hub.records.steps.steps)
came-back hub r k es now n mid new seat is_pid sets table holds b number first second seats pids rooms consistent out =
    let find = get nat_eq hub.clients in
    let clients = subst (λ (k : Socket). (q : ℕ) → new q ≡ (if k.client == q then option_map (with_return k es) (find q) else find q)) b.same (returned find mid new k.client k es first second) in
    let out' = out ∙ ap (λ (k : Socket). removed hub.saved k.pid) b.same in
    recovered hub.base hub.limits r now hub.records.last n find new (seat_at hub.live.seats) seat (sorted.contains nat_cmp hub.live.pids) is_pid hub.live.rooms sets hub.saved table hub.log hub.records.counts (hub.records.steps.steps) es
    (hub-of hub holds) b.accepted b.right b.entries number clients seats pids rooms consistent out'
