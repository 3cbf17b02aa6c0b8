-- What a recovery that isn't refused knows.
use Rattle.std.proofs.Common.{◌≡◌, ℕ, ◌+◌, ◌≤◌, ◌==◌, Bool, true, false, ◌||◌, not, if◌then◌else◌, List, [], ◌∷◌, length, filter, refl, sym, ◌∙◌, ap, subst, arith, Option, None, Some, nat_lt, unwrap_or}
use Rattle.std.specs.Prelude.{is_some, OnOk, OnErr, IfErr, Result, Ok, Err}
use Rattle.std.specs.List.{list_any, find}
use Rattle.std.specs.Option.{option_map_or}
use Rattle.std.proofs.lemmas.Bool.{eqb-true}
use Rattle.std.proofs.lemmas.Bool.Decides.{nat_tests}
use Rattle.std.proofs.lemmas.List.{length-map}
use Rattle.terms.specs.Refusal.{first_refusal}
use Rattle.terms.specs.declared.entry.Entry.{Entry}
use Rattle.room_maps.specs.Membership.{is_socket, are_too_many}
use Rattle.recovery.specs.Expiry.{is_outdated}
use Rattle.recovery.specs.PacketLog.{PlainLogged, IsRun, stands, later_than}
use Rattle.recovery.specs.SavedTable.{PlainSaved}
use Rattle.journal.specs.declared.error.HubError.{HubError}
use Rattle.journal.specs.declared.error.HubError.TheVariants.{Memory, UnknownClient, UnknownNamespace, AlreadyConnected, NotRecoverable, OutboxFull, Spent}
use Rattle.journal.specs.declared.error.RecoveryRefusal.TheVariants.{UnknownPid, Expired, OffsetGone}
use Rattle.journal.specs.declared.socket.Socket.{Socket}
use Rattle.journal.specs.declared.step.Step.{Step}
use Rattle.journal.specs.declared.step.What.{What}
use Rattle.journal.specs.declared.step.What.TheVariants.{Recovered}
use Rattle.journal.specs.declared.totals.Counts.{Counts}
use Rattle.journal.specs.Plain.{PlainBase, Limits, PlainRecovery}
use Rattle.journal.specs.Membership.{is_open, sockets, sid_of, pid_of, has_id, socket_with, socket_of, is_space, rooms}
use Rattle.journal.specs.Sessions.{sessions, session_with, is_sid_saved, is_pid_saved}
use Rattle.journal.specs.Log.{log, next_number}
use Rattle.journal.specs.Outboxes.{put, answer, waiting, entries_of, total_size}
use Rattle.terms.specs.Entry.{entry_size}
use Rattle.journal.specs.Recovery.{brought_back, no_session, recovery_of, gets}
use Rattle.journal.specs.Totals.{placed_by, is_spent}
use Rattle.journal.specs.Refusals.{or_spent, session_refusal, have_no_space, recovered_entries, recover_refusal}
use Rattle.journal.specs.Legal.{RightRecovery, IsSound, IsAway}
use Rattle.journal.specs.Journal.{moment_at, History, with_step}
use Rattle.journal.specs.Command.{refusal, Does}
use Rattle.journal.specs.Fields.{Counted, CanCount}
use Rattle.journal.proofs.SessionsLemmas.{is_some-find}
use Rattle.journal.proofs.SocketsLemmas.{five, is-not, no-one}
use Rattle.journal.proofs.CountsLemmas.{can, unspent}
use Rattle.journal.proofs.RecoverLemmas.{entries_missed, total_size-append, total_size-one, found-pid, found-passes, no-twin, none-left}

three : {E : Type 0} (a b c : Bool) (x y z : E) → is_some (first_refusal ((a, x) ∷ (b, y) ∷ (c, z) ∷ [])) ≡ false → (a ≡ false) × (b ≡ false) × (c ≡ false)
three true b c x y z e = cc
three false true c x y z e = cc
three false false true x y z e = cc
three false false false x y z e = (refl, refl, refl)

module _ (base : PlainBase) (limits : Limits) where
  -- the session is there, the log reaches back to the offset, and there is space for all that is put
  pub record MayRecover (before : List Step) (c space p offset : ℕ) : Type 0 where
    pub known : is_open base before c ≡ true
    pub has_space : is_space limits space ≡ true
    pub alone : socket_of base before c space ≡ None
    pub session : PlainSaved
    pub found : session_with p (sessions base limits before) ≡ Some session
    pub same_space : session.space ≡ space
    pub same_pid : session.pid ≡ p
    pub reaches : stands offset (log base limits before) ≡ true
    pub place : have_no_space limits (waiting base limits before c) (recovered_entries base limits before (record { client = c; space = space; sid = session.sid; pid = p }) offset session.rooms) ≡ false

  abbrev crowded : List Step → (c space p offset : ℕ) → PlainSaved → Bool
  crowded before c space p offset s = have_no_space limits (waiting base limits before c) (recovered_entries base limits before (record { client = c; space = space; sid = s.sid; pid = p }) offset s.rooms)

  pub may-recover : (before : List Step) (c space p offset at : ℕ) → recover_refusal base limits before c space p offset at ≡ None → MayRecover before c space p offset
  may-recover before c space p offset at e = on (session_with p (sessions base limits before)) refl
    where
      on : (o : Option PlainSaved) → session_with p (sessions base limits before) ≡ o → MayRecover before c space p offset
      on None none =
          let refused = session_refusal limits (log base limits before) (session_with p (sessions base limits before)) space offset at in
          let q = five (not (is_open base before c)) (not (is_space limits space)) (is_some (socket_of base before c space)) (is_some refused) (option_map_or (crowded before c space p offset) (session_with p (sessions base limits before)) false)
          UnknownClient UnknownNamespace AlreadyConnected (unwrap_or refused Spent) OutboxFull e in
          let wrong : true ≡ false = ap (λ o. is_some (session_refusal limits (log base limits before) o space offset at)) (sym none) ∙ q.3 in
          cc
      on (Some s) found =
          let refused = session_refusal limits (log base limits before) (session_with p (sessions base limits before)) space offset at in
          let q = five (not (is_open base before c)) (not (is_space limits space)) (is_some (socket_of base before c space)) (is_some refused) (option_map_or (crowded before c space p offset) (session_with p (sessions base limits before)) false)
          UnknownClient UnknownNamespace AlreadyConnected (unwrap_or refused Spent) OutboxFull e in
          let t = three (not (s.space == space)) (is_outdated limits.keep at s.lost_at) (not (stands offset (log base limits before))) (NotRecoverable UnknownPid) (NotRecoverable Expired) (NotRecoverable OffsetGone)
          (ap (λ o. is_some (session_refusal limits (log base limits before) o space offset at)) (sym found) ∙ q.3) in
          record {
            known = is-not (is_open base before c) q.0;
            has_space = is-not (is_space limits space) q.1;
            alone = no-one (socket_of base before c space) q.2;
            session = s;
            found = found;
            same_space = eqb-true s.space space (is-not (s.space == space) t.0);
            same_pid = found-pid p (sessions base limits before) s found;
            reaches = is-not (stands offset (log base limits before)) t.2;
            place = ap (λ o. option_map_or (crowded before c space p offset) o false) (sym found) ∙ q.4;
          }

  pub recovery-is : (before : List Step) (c space p offset : ℕ) (s : PlainSaved) → session_with p (sessions base limits before) ≡ Some s
      → recovery_of base limits before c space p offset ≡ brought_back c space p offset (log base limits before) s
  recovery-is before c space p offset s found = ap (λ o. brought_back c space p offset (log base limits before) (unwrap_or o (no_session space p))) found

  -- with the session's own private id and namespace
  pub recovery-own : (before : List Step) (c space p offset : ℕ) (s : PlainSaved) → session_with p (sessions base limits before) ≡ Some s → s.space ≡ space → s.pid ≡ p
      → brought_back c s.space s.pid offset (log base limits before) s ≡ recovery_of base limits before c space p offset
  recovery-own before c space p offset s found same_space same_pid =
      (λ i. brought_back c (same_space i) (same_pid i) offset (log base limits before) s) ∙ sym (recovery-is before c space p offset s found)

  pub right : (before : List Step) (c space p offset : ℕ) → MayRecover before c space p offset → RightRecovery base limits before (recovery_of base limits before c space p offset)
  right before c space p offset may =
      subst (RightRecovery base limits before) (sym (recovery-is before c space p offset may.session may.found))
      (record {
        lost_at = may.session.lost_at;
        session = may.found ∙ (λ i. Some (record { sid = may.session.sid; pid = may.same_pid i; space = may.same_space i; rooms = may.session.rooms; lost_at = may.session.lost_at }));
        missed_is = refl;
      })

  pub placed_recovered : (before : List Step) (r : PlainRecovery) (es : List Entry) → es ≡ answer limits r.socket ∷ entries_of (log base limits before) r.missed → placed_by base limits before (Recovered r) ≡ length es
  unfolding put
  placed_recovered before r es is = length-map (answer limits r.socket ∷ entries_of (log base limits before) r.missed) (λ e. (r.socket.client, e)) ∙ ap length (sym is)

  same-session : (before : List Step) (r : PlainRecovery) (s : PlainSaved) → session_with r.socket.pid (sessions base limits before) ≡ Some s → (right : RightRecovery base limits before r)
      → s ≡ record { sid = r.socket.sid; pid = r.socket.pid; space = r.socket.space; rooms = r.rooms; lost_at = right.lost_at }
  same-session before r s found right = some-one (sym found ∙ right.session)
    where
      some-one : {x y : PlainSaved} → Some x ≡ Some y → x ≡ y
      some-one e = cc

  -- a right recovery that isn't refused has place for what it puts
  pub place-right : (before : List Step) (r : PlainRecovery) (at : ℕ) → recover_refusal base limits before r.socket.client r.socket.space r.socket.pid r.offset at ≡ None → RightRecovery base limits before r
      → have_no_space limits (waiting base limits before r.socket.client) (recovered_entries base limits before r.socket r.offset r.rooms) ≡ false
  place-right before r at e right =
      let may = may-recover before r.socket.client r.socket.space r.socket.pid r.offset at e in
      subst (λ (s : PlainSaved). crowded before r.socket.client r.socket.space r.socket.pid r.offset s ≡ false) (same-session before r may.session may.found right) may.place

  -- what a right recovery puts is what the log has of the offsets that it missed
  pub entries-right : (before : List Step) (r : PlainRecovery) → RightRecovery base limits before r
      → recovered_entries base limits before r.socket r.offset r.rooms ≡ answer limits r.socket ∷ entries_of (log base limits before) r.missed
  entries-right before r right = ap (λ m. answer limits r.socket ∷ entries_of (log base limits before) m) (sym right.missed_is)

  -- ---- how a recovery is decided

  pub session-space : (o : Option PlainSaved) (s : PlainSaved) (entries : List PlainLogged) (space offset at : ℕ) → o ≡ Some s → session_refusal limits entries o space offset at ≡ None → s.space ≡ space
  session-space None s entries space offset at is e = cc
  session-space (Some t) s entries space offset at is e =
      let same : t ≡ s = cc in
      let t3 = three (not (t.space == space)) (is_outdated limits.keep at t.lost_at) (not (stands offset entries)) (NotRecoverable UnknownPid) (NotRecoverable Expired) (NotRecoverable OffsetGone) (ap (λ x. is_some x) e) in
      ap (λ (z : PlainSaved). z.space) (sym same) ∙ eqb-true t.space space (is-not (t.space == space) t3.0)

  chain : (a b c d f : Bool) (x : HubError) → a ≡ false → b ≡ false → c ≡ false → d ≡ false
      → first_refusal ((a, UnknownClient) ∷ (b, UnknownNamespace) ∷ (c, AlreadyConnected) ∷ (d, x) ∷ (f, OutboxFull) ∷ []) ≡ (if f then Some OutboxFull else None)
  chain true b c d f x e g h i = cc
  chain false true c d f x e g h i = cc
  chain false false true d f x e g h i = cc
  chain false false false true f x e g h i = cc
  chain false false false false true x e g h i = refl
  chain false false false false false x e g h i = refl

  -- but for the space nothing speaks against it
  pub decided : (before : List Step) (c space p offset at : ℕ) (s : PlainSaved) (b : Bool) → is_open base before c ≡ true → is_space limits space ≡ true → socket_of base before c space ≡ None
      → session_refusal limits (log base limits before) (session_with p (sessions base limits before)) space offset at ≡ None → session_with p (sessions base limits before) ≡ Some s
      → have_no_space limits (waiting base limits before c) (recovered_entries base limits before (record { client = c; space = s.space; sid = s.sid; pid = s.pid }) offset s.rooms) ≡ b
      → recover_refusal base limits before c space p offset at ≡ (if b then Some OutboxFull else None)
  decided before c space p offset at s b known has_space alone refused found place =
      let same_space = session-space (session_with p (sessions base limits before)) s (log base limits before) space offset at found refused in
      let same_pid = found-pid p (sessions base limits before) s found in
      let refusal = session_refusal limits (log base limits before) (session_with p (sessions base limits before)) space offset at in
      chain (not (is_open base before c)) (not (is_space limits space)) (is_some (socket_of base before c space)) (is_some refusal) (option_map_or (crowded before c space p offset) (session_with p (sessions base limits before)) false) (unwrap_or refusal Spent)
      (ap not known) (ap not has_space) (ap is_some alone) (ap is_some refused)
      ∙ ap (λ o. if option_map_or (crowded before c space p offset) o false then Some OutboxFull else None) found
      ∙ (λ i. if have_no_space limits (waiting base limits before c) (recovered_entries base limits before (record { client = c; space = sym same_space i; sid = s.sid; pid = sym same_pid i }) offset s.rooms) then Some OutboxFull else None)
      ∙ ap (λ t. if t then Some OutboxFull else None) place

  pub placed_found : (before : List Step) (c space p offset n : ℕ) (s : PlainSaved) → session_with p (sessions base limits before) ≡ Some s → s.space ≡ space → s.pid ≡ p
      → length (recovered_entries base limits before (record { client = c; space = s.space; sid = s.sid; pid = s.pid }) offset s.rooms) ≡ n
      → placed_by base limits before (Recovered (recovery_of base limits before c space p offset)) ≡ n
  placed_found before c space p offset n s found same_space same_pid is =
      let r = brought_back c s.space s.pid offset (log base limits before) s in
      ap (λ r. placed_by base limits before (Recovered r)) (sym (recovery-own before c space p offset s found same_space same_pid))
      ∙ placed_recovered before r (recovered_entries base limits before r.socket offset s.rooms) refl
      ∙ is

  pub entries-put : (before : List Step) (k : Socket) (offset : ℕ) (inside : List (List ℕ)) → IsRun (next_number base before) (log base limits before)
      → recovered_entries base limits before k offset inside ≡ answer limits k ∷ gets k.space inside (later_than offset (log base limits before))
  entries-put before k offset inside run = ap (λ l. answer limits k ∷ l) (entries_missed (next_number base before) offset k.space inside (log base limits before) run)

  -- ---- the recovery of the session that was found

  module _ (before : List Step) (c space p offset : ℕ) (s : PlainSaved) (found : session_with p (sessions base limits before) ≡ Some s) (r : PlainRecovery) (is : r ≡ brought_back c s.space s.pid offset (log base limits before) s) where
    pub is-recovery : MayRecover before c space p offset → r ≡ recovery_of base limits before c space p offset
    is-recovery may = is ∙ recovery-own before c space p offset s found (ap (λ (z : PlainSaved). z.space) same ∙ may.same_space) (found-pid p (sessions base limits before) s found)
      where
        some-one : {x y : PlainSaved} → Some x ≡ Some y → x ≡ y
        some-one e = cc

        same : s ≡ may.session
        same = some-one (sym found ∙ may.found)

    pub still-right : MayRecover before c space p offset → RightRecovery base limits before r
    still-right may = subst (RightRecovery base limits before) (sym (is-recovery may)) (right before c space p offset may)

    pub still-accepted : MayRecover before c space p offset → (at at' : ℕ) → at ≡ at'
        → None ≡ or_spent (recover_refusal base limits before c space p offset at) (is_spent base limits before (Recovered (recovery_of base limits before c space p offset)))
        → None ≡ or_spent (recover_refusal base limits before r.socket.client r.socket.space r.socket.pid r.offset at') (is_spent base limits before (Recovered r))
    still-accepted may at at' same accepted =
        accepted
        ∙ ap (λ n. or_spent (recover_refusal base limits before c space p offset n) (is_spent base limits before (Recovered (recovery_of base limits before c space p offset)))) same
        ∙ ap (λ (r : PlainRecovery). or_spent (recover_refusal base limits before r.socket.client r.socket.space r.socket.pid r.offset at') (is_spent base limits before (Recovered r))) (sym (is-recovery may))

  -- ---- space for an answer and for what was missed

  module _ (ws es g : List Entry) (a : Entry) (is : es ≡ a ∷ g) where
    lengths : length es ≡ 1 + length g
    lengths = let l = ap length is in omega (arith, l)

    sizes : total_size es ≡ entry_size a + total_size g
    sizes = ap total_size is ∙ total_size-append (a ∷ []) g ∙ ap (λ n. n + total_size g) (total_size-one a)

    pub lacks-answer : (nat_lt limits.capacity (length ws + 1) || nat_lt limits.bytes (total_size ws + entry_size a)) ≡ true → have_no_space limits ws es ≡ true
    lacks-answer short = grow limits.capacity limits.bytes (length ws) (total_size ws) (length es) (total_size es) (length g) (total_size g) (entry_size a) lengths sizes short
      where
        grow : (c b w u n t m v s : ℕ) → n ≡ 1 + m → t ≡ s + v → (nat_lt c (w + 1) || nat_lt b (u + s)) ≡ true → (nat_lt c (w + n) || nat_lt b (u + t)) ≡ true
        grow c b w u n t m v s e h short = grind (arith, nat_tests, e, h, short)

    pub lacks-missed : (p q : ℕ) → p + 1 + length ws ≡ limits.capacity → q + entry_size a + total_size ws ≡ limits.bytes → (nat_lt p (length g) || nat_lt q (total_size g)) ≡ true → have_no_space limits ws es ≡ true
    lacks-missed p q places bytes short = grow limits.capacity limits.bytes (length ws) (total_size ws) (length es) (total_size es) (length g) (total_size g) (entry_size a) p q lengths sizes places bytes short
      where
        grow : (c b w u n t m v s p q : ℕ) → n ≡ 1 + m → t ≡ s + v → p + 1 + w ≡ c → q + s + u ≡ b → (nat_lt p m || nat_lt q v) ≡ true → (nat_lt c (w + n) || nat_lt b (u + t)) ≡ true
        grow c b w u n t m v s p q e h k l short = grind (arith, nat_tests, e, h, k, l, short)

    pub has-places : (p q n : ℕ) → p + 1 + length ws ≡ limits.capacity → q + entry_size a + total_size ws ≡ limits.bytes → n ≡ length g → n ≤ p → total_size g ≤ q → have_no_space limits ws es ≡ false
    has-places p q n places bytes number few small = grow limits.capacity limits.bytes (length ws) (total_size ws) (length es) (total_size es) (length g) (total_size g) (entry_size a) p q lengths sizes places bytes (omega (arith, number, few)) small
      where
        grow : (c b w u n t m v s p q : ℕ) → n ≡ 1 + m → t ≡ s + v → p + 1 + w ≡ c → q + s + u ≡ b → m ≤ p → v ≤ q → (nat_lt c (w + n) || nat_lt b (u + t)) ≡ false
        grow c b w u n t m v s p q e h k l few small = grind (arith, nat_tests, e, h, k, l, few, small)

    pub how-many : (n : ℕ) → n ≡ length g → length es ≡ n + 1
    how-many n number = let l = lengths in omega (arith, l, number)

  -- ---- what the hub's soundness adds

  -- the ids are free, the rooms few, and no other session has the ids
  pub record MayReturn (before : List Step) (k : Socket) (inside : List (List ℕ)) : Type 0 where
    pub new_sid : socket_with sid_of base before k.sid ≡ None
    pub new_pid : socket_with pid_of base before k.pid ≡ None
    pub no_socket : is_socket (rooms base before) k.sid ≡ false
    pub few : are_too_many k.sid inside ≡ false
    pub unsaved_sid : is_sid_saved (filter (λ (s : PlainSaved). not (s.pid == k.pid)) (sessions base limits before)) k.sid ≡ false
    pub unsaved_pid : is_pid_saved (filter (λ (s : PlainSaved). not (s.pid == k.pid)) (sessions base limits before)) k.pid ≡ false

  unknown : (id : Socket → ℕ) (x : ℕ) (ks : List Socket) → list_any (λ (k : Socket). id k == x) ks ≡ false → find (has_id id x) ks ≡ None
  unknown id x ks e = no-one (find (has_id id x) ks) (is_some-find (has_id id x) ks ∙ e)

  pub may-return : (before : List Step) (r : PlainRecovery) → IsSound base limits before → RightRecovery base limits before r → MayReturn before r.socket r.rooms
  unfolding socket_with
  may-return before r was right =
      let s : PlainSaved = record { sid = r.socket.sid; pid = r.socket.pid; space = r.socket.space; rooms = r.rooms; lost_at = right.lost_at } in
      let away = found-passes (IsAway (sockets base before)) (λ (s : PlainSaved). s.pid == r.socket.pid) (sessions base limits before) s was.apart right.session in
      let few = found-passes (λ (s : PlainSaved). are_too_many s.sid s.rooms ≡ false) (λ (s : PlainSaved). s.pid == r.socket.pid) (sessions base limits before) s was.few_rooms right.session in
      let no_sid = unknown sid_of r.socket.sid (sockets base before) away.0.0 in
      record {
        new_sid = no_sid;
        new_pid = unknown pid_of r.socket.pid (sockets base before) away.0.1;
        no_socket = was.seated r.socket.sid ∙ ap is_some no_sid;
        few = few.0;
        unsaved_sid = no-twin r.socket.pid (sessions base limits before) s was.sessions_differ right.session;
        unsaved_pid = none-left r.socket.pid (sessions base limits before);
      }

  pub can_recover : (before : List Step) (counts : Counts) → Counted base limits counts before → IsSound base limits before → (r : PlainRecovery) (at n : ℕ)
      → None ≡ or_spent (recover_refusal base limits before r.socket.client r.socket.space r.socket.pid r.offset at) (is_spent base limits before (Recovered r))
      → placed_by base limits before (Recovered r) ≡ n → CanCount counts n 0 0 0
  can_recover before counts was sound r at n accepted puts =
      can base limits before counts was sound.conserved (Recovered r) n 0 0 0 puts refl refl refl
      (unspent (recover_refusal base limits before r.socket.client r.socket.space r.socket.pid r.offset at) (is_spent base limits before (Recovered r)) accepted)

-- ---- answers

pub or-full : (o : Option HubError) (spent : Bool) → o ≡ Some OutboxFull → Some OutboxFull ≡ or_spent o spent
or-full o spent e = sym (ap (λ o. or_spent o spent) e)

pub or-accepted : (o answer : Option HubError) (spent : Bool) → o ≡ None → answer ≡ or_spent None spent → answer ≡ or_spent o spent
or-accepted o answer spent e is = is ∙ sym (ap (λ o. or_spent o spent) e)

-- the answer of a recovery that wrote a step which is this one
pub does-by : {X : Type 0} (before after : History) (now : ℕ) (r : PlainRecovery) (other : What) (result : Result X HubError) → other ≡ Recovered r → None ≡ refusal before (moment_at before now) (Recovered r)
    → OnOk result (after ≡ with_step before now other) → OnErr result (after ≡ before) → IfErr result (λ e. e ≡ Memory) → Does before after now (Recovered r) result
does-by before after now r other (Ok x) is free done same memory = (sym free, done ∙ ap (with_step before now) is)
does-by before after now r other (Err e) is free done same memory = (memory ∙ ap (λ o. unwrap_or o Memory) free, same)
