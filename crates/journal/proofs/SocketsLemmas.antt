-- What connecting a socket makes of a hub.
use Rattle.std.proofs.Common.{◌≡◌, ◌≢◌, ℕ, ◌+◌, ◌≤◌, ◌==◌, Bool, true, false, ◌||◌, not, take, ◌-◌, length-append, List, [], ◌∷◌, ◌++◌, length, filter, max, refl, sym, ◌∙◌, ap, subst, arith, if◌then◌else◌, Option, None, Some, nat_eq, append-nil}
use Rattle.std.specs.Prelude.{is_some}
use Rattle.std.specs.List.{find, IsDistinct, AllByRecursion}
use Rattle.std.specs.Option.{option_map, option_or}
use Rattle.std.proofs.Math.Seq.{take-append_seam}
use Rattle.std.proofs.lemmas.Bool.{eqb-true, eq-eqb}
use Rattle.std.proofs.lemmas.Bool.Decides.{nat_tests}
use Rattle.room_maps.specs.Membership.{RoomSets, is_socket, AreConsistent}
use Rattle.room_maps.proofs.MembershipLaws.{is_socket-with_socket}
use Rattle.recovery.specs.PacketLog.{LogContents}
use Rattle.recovery.specs.SavedTable.{TableContents}
use Rattle.room_maps.specs.Membership as room_maps
use Rattle.terms.specs.declared.entry.Entry.{Entry}
use Rattle.terms.specs.Refusal.{first_refusal}
use Rattle.journal.specs.declared.error.HubError.TheVariants.{UnknownClient, UnknownNamespace, AlreadyConnected, IdTaken, OutboxFull}
use Rattle.journal.specs.declared.socket.Socket.{Socket}
use Rattle.journal.specs.declared.step.Step.{Step}
use Rattle.journal.specs.declared.step.What.TheVariants.{Attached}
use Rattle.journal.specs.declared.totals.Counts.{Counts}
use Rattle.journal.specs.Plain.{PlainBase, Limits, PlainClient}
use Rattle.journal.specs.Journal.{moment}
use Rattle.journal.specs.Membership.{open_clients, is_open, sockets, sid_of, pid_of, has_id, socket_with, is_connected, sockets_of, socket_of, is_space, rooms}
use Rattle.journal.specs.Sessions.{sessions, is_sid_saved, is_pid_saved}
use Rattle.journal.specs.Outboxes.{put, taken_by, waiting, answer, is_full}
use Rattle.journal.specs.Totals.{placed_by, is_spent}
use Rattle.journal.specs.Refusals.{or_spent, attach_refusal, is_taken}
use Rattle.journal.specs.Legal.{IsAllowed, IsLegal, IsSound, IsAway, EachTwo, AreApart}
use Rattle.journal.specs.Fields.{Fields, Counted, CanCount, client_at, with_socket, plus_socket, without_last, with_entry, held_sockets}
use Rattle.journal.proofs.SumsLemmas.{sum-zero}
use Rattle.journal.proofs.MembershipLemmas.{filter-all, is_open-quiet, clients-quiet}
use Rattle.std.proofs.lemmas.List.Elements.{filter-append}
use Rattle.journal.proofs.OutboxesLemmas.{waiting-step}
use Rattle.journal.proofs.TotalsLemmas.{conserved-step, flow-quiet}
use Rattle.journal.proofs.SessionsLemmas.{LeavesBacklog, sessions-quiet, table-quiet, packets-quiet, backlog-quiet, away-push}
use Rattle.journal.proofs.HubLemmas.{legal-step, rooms-step, all-open, sockets_of-none}
use Rattle.journal.proofs.CountsLemmas.{counted, can, unrefused, unspent}
use Rattle.journal.proofs.CommandLemmas.{IsHub}

-- ---- tests that are passed

pub five : {E : Type 0} (a b c d f : Bool) (v w x y z : E) → first_refusal ((a, v) ∷ (b, w) ∷ (c, x) ∷ (d, y) ∷ (f, z) ∷ []) ≡ None → (a ≡ false) × (b ≡ false) × (c ≡ false) × (d ≡ false) × (f ≡ false)
five true b c d f v w x y z e = cc
five false true c d f v w x y z e = cc
five false false true d f v w x y z e = cc
five false false false true f v w x y z e = cc
five false false false false true v w x y z e = cc
five false false false false false v w x y z e = (refl, refl, refl, refl, refl)

pub neither : (a b : Bool) → (a || b) ≡ false → (a ≡ false) × (b ≡ false)
neither true b e = cc
neither false b e = (refl, e)

pub is-not : (b : Bool) → not b ≡ false → b ≡ true
is-not true e = refl
is-not false e = cc

pub no-one : {A : Type 0} (o : Option A) → is_some o ≡ false → o ≡ None
no-one None e = refl
no-one (Some x) e = cc

-- ---- lists of sockets

or-none : {A : Type 0} (o : Option A) → option_or o None ≡ o
or-none None = refl
or-none (Some x) = refl

pub find-push : (id : Socket → ℕ) (k : Socket) (x : ℕ) (ks : List Socket) → find (has_id id (id k)) ks ≡ None
    → find (has_id id x) (ks ++ k ∷ []) ≡ (if id k == x then Some k else find (has_id id x) ks)
find-push id k x [] none = refl
find-push id k x (l ∷ ks) none = on (λ others. find-push id k x ks others) (id l == id k) refl
  where
    split : (id l == id k) ≡ false → (t : Bool) → (id l == x) ≡ t → find (has_id id x) (ks ++ k ∷ []) ≡ (if id k == x then Some k else find (has_id id x) ks)
        → (if t then Some l else find (has_id id x) (ks ++ k ∷ [])) ≡ (if id k == x then Some k else (if t then Some l else find (has_id id x) ks))
    split e true is ih = let other : (id k == x) ≡ false = grind (arith, nat_tests, e, is) in rw other refl
    split e false is ih = ih

    on : (find (has_id id (id k)) ks ≡ None → find (has_id id x) (ks ++ k ∷ []) ≡ (if id k == x then Some k else find (has_id id x) ks))
        → (b : Bool) → (id l == id k) ≡ b → (if id l == x then Some l else find (has_id id x) (ks ++ k ∷ [])) ≡ (if id k == x then Some k else (if id l == x then Some l else find (has_id id x) ks))
    on ih true e = let found : find (has_id id (id k)) (l ∷ ks) ≡ Some l = rw e refl in cc
    on ih false e =
        let same : find (has_id id (id k)) (l ∷ ks) ≡ find (has_id id (id k)) ks = rw e refl in
        split e (id l == x) refl (ih (sym same ∙ none))

pub apart-ids : (id : Socket → ℕ) (x : ℕ) (ks : List Socket) → find (has_id id x) ks ≡ None → AllByRecursion (λ (l : Socket). (id l == x) ≡ false) ks
apart-ids id x [] none = tt
apart-ids id x (l ∷ ks) none = on (apart-ids id x ks) (id l == x) refl none
  where
    on : (find (has_id id x) ks ≡ None → AllByRecursion (λ (l : Socket). (id l == x) ≡ false) ks)
        → (b : Bool) → (id l == x) ≡ b → (if b then Some l else find (has_id id x) ks) ≡ None → AllByRecursion (λ (l : Socket). (id l == x) ≡ false) (l ∷ ks)
    on ih true e none = cc
    on ih false e none = (e, ih none)

pub apart-spaces : (c space : ℕ) (ks : List Socket) → find (λ (l : Socket). l.space == space) (filter (λ (l : Socket). l.client == c) ks) ≡ None
    → AllByRecursion (λ (l : Socket). (l.client == c) ≡ true → (l.space == space) ≡ false) ks
apart-spaces c space [] none = tt
apart-spaces c space (l ∷ ks) none = on (apart-spaces c space ks) (l.client == c) refl none
  where
    at : (find (λ (l : Socket). l.space == space) (filter (λ (l : Socket). l.client == c) ks) ≡ None → AllByRecursion (λ (l : Socket). (l.client == c) ≡ true → (l.space == space) ≡ false) ks)
        → (t : Bool) → (l.space == space) ≡ t → (if t then Some l else find (λ (l : Socket). l.space == space) (filter (λ (l : Socket). l.client == c) ks)) ≡ None
        → AllByRecursion (λ (l : Socket). (l.client == c) ≡ true → (l.space == space) ≡ false) (l ∷ ks)
    at ih true is none = cc
    at ih false is none = ((λ _. is), ih none)

    on : (find (λ (l : Socket). l.space == space) (filter (λ (l : Socket). l.client == c) ks) ≡ None → AllByRecursion (λ (l : Socket). (l.client == c) ≡ true → (l.space == space) ≡ false) ks)
        → (b : Bool) → (l.client == c) ≡ b → find (λ (l : Socket). l.space == space) (if b then l ∷ filter (λ (l : Socket). l.client == c) ks else filter (λ (l : Socket). l.client == c) ks) ≡ None
        → AllByRecursion (λ (l : Socket). (l.client == c) ≡ true → (l.space == space) ≡ false) (l ∷ ks)
    on ih false e none = ((λ is. cc), ih none)
    on ih true e none = at ih (l.space == space) refl none

differ : (x y : ℕ) → (x == y) ≡ false → x ≢ y
differ x y e same = let is : (x == y) ≡ true = eq-eqb x y same in cc

pub all-apart : (k : Socket) (ks : List Socket) → AllByRecursion (λ (l : Socket). (l.sid == k.sid) ≡ false) ks → AllByRecursion (λ (l : Socket). (l.pid == k.pid) ≡ false) ks
    → AllByRecursion (λ (l : Socket). (l.client == k.client) ≡ true → (l.space == k.space) ≡ false) ks → AllByRecursion (λ (l : Socket). AreApart l k) ks
all-apart k [] a b c = tt
all-apart k (l ∷ ks) a b c =
    ((differ l.sid k.sid a.0, differ l.pid k.pid b.0, λ same. differ l.space k.space (c.0 (eq-eqb l.client k.client same))), all-apart k ks a.1 b.1 c.1)

pub apart-push : (k : Socket) (ks : List Socket) → EachTwo AreApart ks → AllByRecursion (λ (l : Socket). AreApart l k) ks → EachTwo AreApart (ks ++ k ∷ [])
unfolding EachTwo
apart-push k [] each all = (tt, tt)
apart-push k (l ∷ ks) each all = (more ks each.0 all.0, apart-push k ks each.1 all.1)
  where
    more : (ms : List Socket) → AllByRecursion (AreApart l) ms → AreApart l k → AllByRecursion (AreApart l) (ms ++ k ∷ [])
    more [] h e = (e, tt)
    more (m ∷ ms) h e = (h.0, more ms h.1 e)

pub all-push : {A : Type 0} (P : A → Type 0) (xs : List A) (x : A) → AllByRecursion P xs → P x → AllByRecursion P (xs ++ x ∷ [])
all-push P [] x h e = (e, tt)
all-push P (y ∷ xs) x h e = (h.0, all-push P xs x h.1 e)

-- ---- the command

-- what an accepted attachment knows
pub record MayAttach (base : PlainBase) (limits : Limits) (before : List Step) (k : Socket) : Type 0 where
  pub known : is_open base before k.client ≡ true
  pub space : is_space limits k.space ≡ true
  pub alone : socket_of base before k.client k.space ≡ None
  pub new_sid : socket_with sid_of base before k.sid ≡ None
  pub new_pid : socket_with pid_of base before k.pid ≡ None
  pub unsaved_sid : is_sid_saved (sessions base limits before) k.sid ≡ false
  pub unsaved_pid : is_pid_saved (sessions base limits before) k.pid ≡ false
  pub place : is_full base limits before k.client (answer limits k) ≡ false

module _ (base : PlainBase) (limits : Limits) where
  pub may-attach : (before : List Step) (k : Socket) → attach_refusal base limits before k ≡ None → MayAttach base limits before k
  may-attach before k e =
      let p = five (not (is_open base before k.client)) (not (is_space limits k.space)) (is_some (socket_of base before k.client k.space)) (is_taken base limits before k) (is_full base limits before k.client (answer limits k)) UnknownClient UnknownNamespace AlreadyConnected IdTaken OutboxFull e in
      let ids = neither (is_connected sid_of base before k.sid || is_sid_saved (sessions base limits before) k.sid) (is_connected pid_of base before k.pid || is_pid_saved (sessions base limits before) k.pid) p.3 in
      let sids = neither (is_connected sid_of base before k.sid) (is_sid_saved (sessions base limits before) k.sid) ids.0 in
      let pids = neither (is_connected pid_of base before k.pid) (is_pid_saved (sessions base limits before) k.pid) ids.1 in
      record {
        known = is-not (is_open base before k.client) p.0;
        space = is-not (is_space limits k.space) p.1;
        alone = no-one (socket_of base before k.client k.space) p.2;
        new_sid = no-one (socket_with sid_of base before k.sid) sids.0;
        new_pid = no-one (socket_with pid_of base before k.pid) pids.0;
        unsaved_sid = sids.1;
        unsaved_pid = pids.1;
        place = p.4;
      }

  sockets-attached : (k : Socket) (at : ℕ) (before : List Step) → sockets base (record { at = at; what = Attached k } ∷ before) ≡ sockets base before ++ k ∷ []
  unfolding sockets
  sockets-attached k at before = ap (λ l. l ++ k ∷ []) (filter-all (λ (l : Socket). not false) (sockets base before) (λ l. refl))

  with-attached : (id : Socket → ℕ) (k : Socket) (at : ℕ) (before : List Step) (x : ℕ) → socket_with id base before (id k) ≡ None
      → socket_with id base (record { at = at; what = Attached k } ∷ before) x ≡ (if id k == x then Some k else socket_with id base before x)
  unfolding socket_with
  with-attached id k at before x none = ap (find (has_id id x)) (sockets-attached k at before) ∙ find-push id k x (sockets base before) none

  of-attached : (k : Socket) (at : ℕ) (before : List Step) (q : ℕ) → sockets_of base (record { at = at; what = Attached k } ∷ before) q ≡ sockets_of base before q ++ (if k.client == q then k ∷ [] else [])
  unfolding sockets_of
  of-attached k at before q = ap (filter (λ (l : Socket). l.client == q)) (sockets-attached k at before) ∙ filter-append (λ (l : Socket). l.client == q) (sockets base before) (k ∷ [])

  attached-at : (k : Socket) (at : ℕ) (before : List Step) → IsLegal base limits before → (q : ℕ) (b : Bool) → (k.client == q) ≡ b
      → client_at base limits (record { at = at; what = Attached k } ∷ before) q ≡ (if b then option_map (with_socket k (answer limits k)) (client_at base limits before q) else client_at base limits before q)
  unfolding put
  attached-at k at before legal q true e =
      let step : Step = record { at = at; what = Attached k } in
      rw (is_open-quiet base step before refl (λ c. refl) q, of-attached k at before q, waiting-step base limits step before legal q refl, e) (on (is_open base before q))
    where
      on : (o : Bool) → (if o then Some (record { sockets = sockets_of base before q ++ k ∷ []; outbox = record { waiting = waiting base limits before q ++ answer limits k ∷ []; capacity = limits.capacity; bytes = limits.bytes } }) else None)
          ≡ option_map (with_socket k (answer limits k)) (if o then Some (record { sockets = sockets_of base before q; outbox = record { waiting = waiting base limits before q; capacity = limits.capacity; bytes = limits.bytes } }) else None)
      on true = refl
      on false = refl
  attached-at k at before legal q false e =
      let step : Step = record { at = at; what = Attached k } in
      rw (is_open-quiet base step before refl (λ c. refl) q, of-attached k at before q, waiting-step base limits step before legal q refl, e, append-nil, append-nil) refl

  some-or : (b : Bool) (k : Socket) (o : Option Socket) → is_some (if b then Some k else o) ≡ (b || is_some o)
  some-or true k o = refl
  some-or false k o = refl

  pub puts_attached : (before : List Step) (k : Socket) → placed_by base limits before (Attached k) ≡ 1
  unfolding put
  puts_attached before k = refl

  attached-fields : (k : Socket) (now newest : ℕ) (before : List Step) (find find' : ℕ → Option PlainClient) (seat seat' : ℕ → Option Socket) (is_pid is_pid' : ℕ → Bool) (sets sets' : RoomSets) (table : TableContents) (packets : LogContents)
      → Fields base limits find seat is_pid sets table packets newest before → IsLegal base limits before → MayAttach base limits before k
      → ((q : ℕ) → find' q ≡ (if k.client == q then option_map (with_socket k (answer limits k)) (find q) else find q))
      → ((s : ℕ) → seat' s ≡ (if k.sid == s then Some k else seat s))
      → ((p : ℕ) → is_pid' p ≡ ((k.pid == p) || is_pid p))
      → sets' ≡ room_maps.with_socket sets k.sid
      → Fields base limits find' seat' is_pid' sets' table packets (max now newest) (record { at = max now newest; what = Attached k } ∷ before)
  unfolding moment
  attached-fields k now newest before find find' seat seat' is_pid is_pid' sets sets' table packets was legal may puts seats pids change =
      let step : Step = record { at = max now newest; what = Attached k } in
      let leaves : LeavesBacklog base limits step before = record { same_sessions = refl; no_call = refl; unused = refl } in
      record {
        clients = λ q. puts q ∙ ap (λ o. if k.client == q then option_map (with_socket k (answer limits k)) o else o) (was.clients q) ∙ sym (attached-at k (max now newest) before legal q (k.client == q) refl);
        seats = λ s. seats s ∙ ap (λ o. if k.sid == s then Some k else o) (was.seats s) ∙ sym (with-attached sid_of k (max now newest) before s may.new_sid);
        pids = λ p. pids p ∙ ap (λ b. (k.pid == p) || b) (was.pids p) ∙ sym (some-or (k.pid == p) k (socket_with pid_of base before p)) ∙ sym (ap is_some (with-attached pid_of k (max now newest) before p may.new_pid));
        rooms_are = rooms-step base limits step before sets sets' was.rooms_are change;
        saved_is = table-quiet base limits step before table leaves was.saved_is;
        log_is = packets-quiet base limits step before packets leaves was.log_is;
        log_last = omega (arith, was.log_last);
        last = refl;
      }

  -- the new socket, and no other, is in rooms now
  seated-attached : (k : Socket) (at : ℕ) (before : List Step) (s : ℕ) → socket_with sid_of base before k.sid ≡ None → is_socket (rooms base before) s ≡ is_connected sid_of base before s
      → is_socket (room_maps.with_socket (rooms base before) k.sid) s ≡ is_connected sid_of base (record { at = at; what = Attached k } ∷ before) s
  seated-attached k at before s none was =
      is_socket-with_socket (rooms base before) k.sid s
      ∙ ap (λ b. (k.sid == s) || b) was
      ∙ sym (some-or (k.sid == s) k (socket_with sid_of base before s))
      ∙ sym (ap is_some (with-attached sid_of k at before s none))

  attached-sound : (k : Socket) (at : ℕ) (before : List Step) → IsLegal base limits before → IsAllowed base limits before (record { at = at; what = Attached k }) (Attached k) → attach_refusal base limits before k ≡ None → IsSound base limits before → moment base before ≤ at → AreConsistent (room_maps.with_socket (rooms base before) k.sid)
      → IsSound base limits (record { at = at; what = Attached k } ∷ before)
  unfolding put socket_with socket_of sockets_of rooms
  attached-sound k at before legal fine allowed was late agree =
      let step : Step = record { at = at; what = Attached k } in
      let leaves : LeavesBacklog base limits step before = record { same_sessions = refl; no_call = refl; unused = refl } in
      let backlog = backlog-quiet base limits step before leaves late was in
      let may = may-attach before k allowed in
      let ks = sockets-attached k at before in
      record {
        few_spaces = was.few_spaces;
        clients_once = subst (IsDistinct nat_eq) (sym (clients-quiet base step before refl (λ c. refl))) was.clients_once;
        sockets_apart = subst (EachTwo AreApart) (sym ks) (apart-push k (sockets base before) was.sockets_apart
            (all-apart k (sockets base before) (apart-ids sid_of k.sid (sockets base before) may.new_sid) (apart-ids pid_of k.pid (sockets base before) may.new_pid) (apart-spaces k.client k.space (sockets base before) may.alone)));
        of_open_clients = subst (AllByRecursion (λ (l : Socket). is_open base (step ∷ before) l.client ≡ true)) (sym ks)
            (all-push (λ (l : Socket). is_open base (step ∷ before) l.client ≡ true) (sockets base before) k
            (all-open base limits step before (λ c e. is_open-quiet base step before refl (λ c. refl) c ∙ e) (sockets base before) was.of_open_clients)
            (is_open-quiet base step before refl (λ c. refl) k.client ∙ may.known));
        in_spaces = subst (AllByRecursion (λ (l : Socket). is_space limits l.space ≡ true)) (sym ks) (all-push (λ (l : Socket). is_space limits l.space ≡ true) (sockets base before) k was.in_spaces may.space);
        seated = λ s. seated-attached k at before s may.new_sid (was.seated s);
        rooms_agree = agree;
        apart = subst (AllByRecursion (IsAway (sockets base (step ∷ before)))) (sym (sessions-quiet base limits step before leaves))
            (subst (λ l. AllByRecursion (IsAway l) (sessions base limits before)) (sym ks) (away-push k (sockets base before) (sessions base limits before) may.unsaved_sid may.unsaved_pid was.apart));
        sessions_differ = backlog.sessions_differ;
        few_rooms = backlog.few_rooms;
        offsets_rise = backlog.offsets_rise;
        log_rises = backlog.log_rises;
        log_late = backlog.log_late;
        conserved = conserved-step base limits step before was.conserved
            (let f = flow-quiet base limits step before legal fine was.clients_once refl (λ c. refl) (λ c. refl) (may.known, tt) (sum-zero (λ c. taken_by c (Attached k)) (open_clients base before) (λ c e. refl)) in omega (arith, f));
      }

  pub attached : (k : Socket) (now newest : ℕ) (find find' : ℕ → Option PlainClient) (seat seat' : ℕ → Option Socket) (is_pid is_pid' : ℕ → Bool) (sets sets' : RoomSets) (table : TableContents) (packets : LogContents) (counts : Counts) (before : List Step)
      → IsHub base limits find seat is_pid sets table packets newest counts before
      → None ≡ or_spent (attach_refusal base limits before k) (is_spent base limits before (Attached k))
      → ((q : ℕ) → find' q ≡ (if k.client == q then option_map (with_socket k (answer limits k)) (find q) else find q))
      → ((s : ℕ) → seat' s ≡ (if k.sid == s then Some k else seat s))
      → ((p : ℕ) → is_pid' p ≡ ((k.pid == p) || is_pid p))
      → sets' ≡ room_maps.with_socket sets k.sid → AreConsistent sets'
      → IsHub base limits find' seat' is_pid' sets' table packets (max now newest) (record { commands = counts.commands + 1; placed = counts.placed + 1; dropped = counts.dropped + 0; taken = counts.taken + 0; discarded = counts.discarded + 0 }) (record { at = max now newest; what = Attached k } ∷ before)
  attached k now newest find find' seat seat' is_pid is_pid' sets sets' table packets counts before was accepted puts seats pids change consistent =
      let step : Step = record { at = max now newest; what = Attached k } in
      let late : moment base before ≤ max now newest = rw (← was.0.last) (omega arith) in
      let agree : AreConsistent (room_maps.with_socket (rooms base before) k.sid) = subst AreConsistent (change ∙ ap (λ v. room_maps.with_socket v k.sid) was.0.rooms_are) consistent in
      let allowed = unrefused (attach_refusal base limits before k) (is_spent base limits before (Attached k)) accepted in
      let fine : IsAllowed base limits before step step.what = (sym accepted, tt) in (
        attached-fields k now newest before find find' seat seat' is_pid is_pid' sets sets' table packets was.0 was.1 (may-attach before k allowed) puts seats pids change,
        legal-step base limits step before fine late was.1,
        attached-sound k (max now newest) before was.1 fine allowed was.2 late agree,
        counted base limits before counts was.3 was.2.conserved step 1 0 0 0 (puts_attached before k) refl refl refl,
      )

  pub can_attach : (before : List Step) (counts : Counts) → Counted base limits counts before → IsSound base limits before → (k : Socket) → None ≡ or_spent (attach_refusal base limits before k) (is_spent base limits before (Attached k)) → CanCount counts 1 0 0 0
  can_attach before counts was sound k accepted =
      can base limits before counts was sound.conserved (Attached k) 1 0 0 0 (puts_attached before k) refl refl refl (unspent (attach_refusal base limits before k) (is_spent base limits before (Attached k)) accepted)

  -- a client that isn't open has no socket
  pub socket_of-open : (before : List Step) (c space : ℕ) → AllByRecursion (λ (k : Socket). is_open base before k.client ≡ true) (sockets base before)
      → (if is_open base before c then find (λ (k : Socket). k.space == space) (sockets_of base before c) else None) ≡ socket_of base before c space
  unfolding socket_of
  socket_of-open before c space known = on (is_open base before c) refl
    where
      on : (b : Bool) → is_open base before c ≡ b → (if b then find (λ (k : Socket). k.space == space) (sockets_of base before c) else None) ≡ find (λ (k : Socket). k.space == space) (sockets_of base before c)
      on true e = refl
      on false e = sym (ap (find (λ (k : Socket). k.space == space)) (sockets_of-none base limits c before e known))

-- ---- the maps

-- none of the sockets that are held of the client is at the place
pub free-there : (base : PlainBase) (limits : Limits) (finds : ℕ → Option PlainClient) (before : List Step) (c space : ℕ) → ((q : ℕ) → finds q ≡ client_at base limits before q) → is_open base before c ≡ true
    → socket_of base before c space ≡ None → find (λ (l : Socket). l.space == space) (held_sockets (finds c)) ≡ None
unfolding socket_of
free-there base limits finds before c space are known alone =
    ap (λ o. find (λ (l : Socket). l.space == space) (held_sockets o)) (are c) ∙ rw known alone

-- a socket more, and then its answer
pub seated : (find mid new : ℕ → Option PlainClient) (c : ℕ) (k : Socket) (e : Entry)
    → ((q : ℕ) → mid q ≡ (if c == q then option_map (plus_socket k) (find q) else find q))
    → ((q : ℕ) → new q ≡ (if c == q then option_map (with_entry e) (mid q) else mid q))
    → (q : ℕ) → new q ≡ (if c == q then option_map (with_socket k e) (find q) else find q)
seated find mid new c k e first second q = second q ∙ ap (λ o. if c == q then option_map (with_entry e) o else o) (first q) ∙ on (c == q) (find q)
  where
    on : (b : Bool) (o : Option PlainClient) → (if b then option_map (with_entry e) (if b then option_map (plus_socket k) o else o) else (if b then option_map (plus_socket k) o else o))
        ≡ (if b then option_map (with_socket k e) o else o)
    on true None = refl
    on true (Some x) = refl
    on false o = refl

-- a socket more, and then one less
pub unseated : (find mid new : ℕ → Option PlainClient) (c : ℕ) (k : Socket)
    → ((q : ℕ) → mid q ≡ (if c == q then option_map (plus_socket k) (find q) else find q))
    → ((q : ℕ) → new q ≡ (if c == q then option_map without_last (mid q) else mid q))
    → (q : ℕ) → new q ≡ find q
unseated find mid new c k first second q = second q ∙ ap (λ o. if c == q then option_map without_last o else o) (first q) ∙ on (c == q) (find q)
  where
    back : (xs : List Socket) → take (length (xs ++ k ∷ []) - 1) (xs ++ k ∷ []) ≡ xs
    back xs = (let e : length (xs ++ k ∷ []) - 1 ≡ length xs = omega (arith, length-append xs (k ∷ [])) in ap (λ n. take n (xs ++ k ∷ [])) e) ∙ take-append_seam xs (k ∷ [])

    on : (b : Bool) (o : Option PlainClient) → (if b then option_map without_last (if b then option_map (plus_socket k) o else o) else (if b then option_map (plus_socket k) o else o)) ≡ o
    on true None = refl
    on true (Some x) = ap (λ ks. Some (record { sockets = ks; outbox = x.outbox })) (back x.sockets)
    on false o = refl

-- maps with the same look-ups
pub same-fields : (base : PlainBase) (limits : Limits) (find find' : ℕ → Option PlainClient) (seat seat' : ℕ → Option Socket) (is_pid is_pid' : ℕ → Bool) (sets sets' : RoomSets) (table : TableContents) (packets : LogContents) (newest : ℕ) (journal : List Step)
    → Fields base limits find seat is_pid sets table packets newest journal → ((q : ℕ) → find' q ≡ find q) → ((s : ℕ) → seat' s ≡ seat s) → ((p : ℕ) → is_pid' p ≡ is_pid p) → sets' ≡ sets
    → Fields base limits find' seat' is_pid' sets' table packets newest journal
same-fields base limits find find' seat seat' is_pid is_pid' sets sets' table packets newest journal was clients seats pids rooms = record {
  clients = λ q. clients q ∙ was.clients q;
  seats = λ s. seats s ∙ was.seats s;
  pids = λ p. pids p ∙ was.pids p;
  rooms_are = rooms ∙ was.rooms_are;
  saved_is = was.saved_is;
  log_is = was.log_is;
  log_last = was.log_last;
  last = was.last;
}

-- one key more, and then one less
pub back : {A : Type 0} (find mid new : ℕ → Option A) (k : ℕ) (v : A) → find k ≡ None
    → ((q : ℕ) → mid q ≡ (if k == q then Some v else find q)) → ((q : ℕ) → new q ≡ (if k == q then None else mid q)) → (q : ℕ) → new q ≡ find q
back find mid new k v free first second q = second q ∙ on (k == q) refl
  where
    on : (b : Bool) → (k == q) ≡ b → (if b then None else mid q) ≡ find q
    on true e = let same : k ≡ q = eqb-true k q e in sym (subst (λ z. find z ≡ None) same free)
    on false e = first q ∙ rw e refl

pub back-set : (has mid new : ℕ → Bool) (k : ℕ) → has k ≡ false
    → ((q : ℕ) → mid q ≡ ((k == q) || has q)) → ((q : ℕ) → new q ≡ (if k == q then false else mid q)) → (q : ℕ) → new q ≡ has q
back-set has mid new k free first second q = second q ∙ on (k == q) refl
  where
    on : (b : Bool) → (k == q) ≡ b → (if b then false else mid q) ≡ has q
    on true e = let same : k ≡ q = eqb-true k q e in sym (subst (λ z. has z ≡ false) same free)
    on false e = first q ∙ rw e refl
