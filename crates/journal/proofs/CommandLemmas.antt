-- What each command makes of a hub: the step that it writes leaves the fields what the history says.
use Rattle.std.proofs.Common.{min, ◌≡◌, ℕ, ◌+◌, ◌≤◌, ◌==◌, Bool, true, false, List, ◌∷◌, length, max, refl, sym, ◌∙◌, ap, arith, if◌then◌else◌, Option, None, Some, nat_le}
use Rattle.room_maps.specs.Membership.{RoomSets}
use Rattle.recovery.specs.PacketLog.{LogContents}
use Rattle.recovery.specs.SavedTable.{TableContents}
use Rattle.journal.specs.declared.socket.Socket.{Socket}
use Rattle.journal.specs.declared.step.Step.{Step}
use Rattle.journal.specs.declared.step.What.TheVariants.{Opened, Told, Took}
use Rattle.journal.specs.declared.totals.Counts.{Counts}
use Rattle.journal.specs.Plain.{PlainBase, Limits, PlainClient, PlainMessage}
use Rattle.journal.specs.Journal.{moment}
use Rattle.journal.specs.Membership.{open_clients, is_open}
use Rattle.journal.specs.Outboxes.{put, waiting}
use Rattle.journal.specs.Totals.{placed_by, is_spent}
use Rattle.std.specs.Option.{option_map}
use Rattle.journal.specs.declared.error.HubError.TheVariants.{UnknownClient}
use Rattle.journal.specs.Refusals.{or_spent, open_refusal, client_refusal, tell_refusal}
use Rattle.journal.specs.Legal.{IsAllowed, IsLegal, IsSound}
use Rattle.journal.specs.Fields.{Fields, Counted, CanCount, new_client, without_first, with_entry}
use Rattle.journal.proofs.HubLemmas.{legal-step, opened-fields, opened-sound, took-fields, took-sound, told-fields, told-sound}
use Rattle.journal.proofs.CountsLemmas.{counted, can, unrefused, unspent}

-- the invariant, over plain data
abbrev pub IsHub : PlainBase → Limits → (ℕ → Option PlainClient) → (ℕ → Option Socket) → (ℕ → Bool) → RoomSets → TableContents → LogContents → ℕ → Counts → List Step → Type 0
IsHub base limits find seat is_pid sets table packets newest counts journal =
    Fields base limits find seat is_pid sets table packets newest journal × IsLegal base limits journal × IsSound base limits journal × Counted base limits counts journal

module _ (base : PlainBase) (limits : Limits) where
  pub puts_opened : (before : List Step) (c : ℕ) → placed_by base limits before (Opened c) ≡ 0
  unfolding put
  puts_opened before c = refl

  pub not_open : (c : ℕ) (before : List Step) → open_refusal base limits before c ≡ None → is_open base before c ≡ false
  not_open c before e = on (is_open base before c) (nat_le limits.clients (length (open_clients base before))) refl e
    where
      on : (b d : Bool) → is_open base before c ≡ b → open_refusal base limits before c ≡ None → is_open base before c ≡ false
      on true d k e = let r : open_refusal base limits before c ≡ None = e in grind (arith, k, r)
      on false d k e = k

  pub opened : (c now newest : ℕ) (find find' : ℕ → Option PlainClient) (seat : ℕ → Option Socket) (is_pid : ℕ → Bool) (sets : RoomSets) (table : TableContents) (packets : LogContents) (counts : Counts) (before : List Step)
      → IsHub base limits find seat is_pid sets table packets newest counts before
      → None ≡ or_spent (open_refusal base limits before c) (is_spent base limits before (Opened c))
      → (v : PlainClient) → v ≡ new_client limits → ((q : ℕ) → find' q ≡ (if c == q then Some v else find q))
      → IsHub base limits find' seat is_pid sets table packets (max now newest) (record { commands = counts.commands + 1; placed = counts.placed + 0; dropped = counts.dropped + 0; taken = counts.taken + 0; discarded = counts.discarded + 0 }) (record { at = max now newest; what = Opened c } ∷ before)
  opened c now newest find find' seat is_pid sets table packets counts before was accepted v is puts =
      let step : Step = record { at = max now newest; what = Opened c } in
      let late : moment base before ≤ max now newest = rw (← was.0.last) (omega arith) in
      let allowed = unrefused (open_refusal base limits before c) (is_spent base limits before (Opened c)) accepted in
      let shut = not_open c before allowed in (
        opened-fields base limits c now newest before find find' seat is_pid sets table packets was.0 was.1 was.2 shut (λ q. puts q ∙ ap (λ z. if c == q then Some z else find q) is),
        legal-step base limits step before (sym accepted, tt) late was.1,
        opened-sound base limits c (max now newest) before was.1 was.2 late shut,
        counted base limits before counts was.3 was.2.conserved step 0 0 0 0 (puts_opened before c) refl refl refl,
      )

  pub can_open : (before : List Step) (counts : Counts) → Counted base limits counts before → IsSound base limits before → (c : ℕ) → None ≡ or_spent (open_refusal base limits before c) (is_spent base limits before (Opened c)) → CanCount counts 0 0 0 0
  can_open before counts was sound c accepted =
      can base limits before counts was sound.conserved (Opened c) 0 0 0 0 (puts_opened before c) refl refl refl (unspent (open_refusal base limits before c) (is_spent base limits before (Opened c)) accepted)

  pub puts_took : (before : List Step) (c m n : ℕ) → placed_by base limits before (Took c m n) ≡ 0
  unfolding put
  puts_took before c m n = refl

  known_open : (c : ℕ) (before : List Step) → client_refusal base before c ≡ None → is_open base before c ≡ true
  known_open c before e = grind (arith, e)

  pub took : (c m n now newest : ℕ) (find find' : ℕ → Option PlainClient) (seat : ℕ → Option Socket) (is_pid : ℕ → Bool) (sets : RoomSets) (table : TableContents) (packets : LogContents) (counts : Counts) (before : List Step)
      → IsHub base limits find seat is_pid sets table packets newest counts before
      → None ≡ or_spent (client_refusal base before c) (is_spent base limits before (Took c m n))
      → n ≡ min m (length (waiting base limits before c))
      → ((q : ℕ) → find' q ≡ (if c == q then option_map (without_first n) (find q) else find q))
      → IsHub base limits find' seat is_pid sets table packets (max now newest) (record { commands = counts.commands + 1; placed = counts.placed + 0; dropped = counts.dropped + 0; taken = counts.taken + n; discarded = counts.discarded + 0 }) (record { at = max now newest; what = Took c m n } ∷ before)
  took c m n now newest find find' seat is_pid sets table packets counts before was accepted within takes =
      let step : Step = record { at = max now newest; what = Took c m n } in
      let late : moment base before ≤ max now newest = rw (← was.0.last) (omega arith) in
      let free = unrefused (client_refusal base before c) (is_spent base limits before (Took c m n)) accepted in
      let allowed : IsAllowed base limits before step step.what = (sym accepted, within) in (
        took-fields base limits c m n now newest before find find' seat is_pid sets table packets was.0 was.1 takes,
        legal-step base limits step before allowed late was.1,
        took-sound base limits c m n (max now newest) before was.1 allowed was.2 late (known_open c before free),
        counted base limits before counts was.3 was.2.conserved step 0 0 n 0 (puts_took before c m n) refl refl refl,
      )

  pub can_take : (before : List Step) (counts : Counts) → Counted base limits counts before → IsSound base limits before → (c m n : ℕ) → None ≡ or_spent (client_refusal base before c) (is_spent base limits before (Took c m n)) → CanCount counts 0 0 n 0
  can_take before counts was sound c m n accepted =
      can base limits before counts was sound.conserved (Took c m n) 0 0 n 0 (puts_took before c m n) refl refl refl (unspent (client_refusal base before c) (is_spent base limits before (Took c m n)) accepted)

  pub puts_told : (before : List Step) (m : PlainMessage) → placed_by base limits before (Told m) ≡ 1
  unfolding put
  puts_told before m = refl

  tell_open : (m : PlainMessage) (before : List Step) → tell_refusal base limits before m.client m.entry ≡ None → is_open base before m.client ≡ true
  tell_open m before e = on (is_open base before m.client) refl
    where
      on : (b : Bool) → is_open base before m.client ≡ b → b ≡ true
      on true k = refl
      on false k = let r : tell_refusal base limits before m.client m.entry ≡ Some UnknownClient = rw k refl in cc

  pub told : (m : PlainMessage) (now newest : ℕ) (find find' : ℕ → Option PlainClient) (seat : ℕ → Option Socket) (is_pid : ℕ → Bool) (sets : RoomSets) (table : TableContents) (packets : LogContents) (counts : Counts) (before : List Step)
      → IsHub base limits find seat is_pid sets table packets newest counts before
      → None ≡ or_spent (tell_refusal base limits before m.client m.entry) (is_spent base limits before (Told m))
      → ((q : ℕ) → find' q ≡ (if m.client == q then option_map (with_entry m.entry) (find q) else find q))
      → IsHub base limits find' seat is_pid sets table packets (max now newest) (record { commands = counts.commands + 1; placed = counts.placed + 1; dropped = counts.dropped + 0; taken = counts.taken + 0; discarded = counts.discarded + 0 }) (record { at = max now newest; what = Told m } ∷ before)
  told m now newest find find' seat is_pid sets table packets counts before was accepted puts =
      let step : Step = record { at = max now newest; what = Told m } in
      let late : moment base before ≤ max now newest = rw (← was.0.last) (omega arith) in
      let allowed = unrefused (tell_refusal base limits before m.client m.entry) (is_spent base limits before (Told m)) accepted in
      let fine : IsAllowed base limits before step step.what = (sym accepted, tt) in (
        told-fields base limits m now newest before find find' seat is_pid sets table packets was.0 was.1 puts,
        legal-step base limits step before fine late was.1,
        told-sound base limits m (max now newest) before was.1 fine was.2 late (tell_open m before allowed),
        counted base limits before counts was.3 was.2.conserved step 1 0 0 0 (puts_told before m) refl refl refl,
      )

  pub can_tell : (before : List Step) (counts : Counts) → Counted base limits counts before → IsSound base limits before → (m : PlainMessage) → None ≡ or_spent (tell_refusal base limits before m.client m.entry) (is_spent base limits before (Told m)) → CanCount counts 1 0 0 0
  can_tell before counts was sound m accepted =
      can base limits before counts was sound.conserved (Told m) 1 0 0 0 (puts_told before m) refl refl refl (unspent (tell_refusal base limits before m.client m.entry) (is_spent base limits before (Told m)) accepted)

-- what a look-up of an open client tells
pub some_if : {A : Type 0} (b : Bool) (x y : A) → Some x ≡ (if b then Some y else None) → x ≡ y
some_if true x y e = cc
some_if false x y e = cc

pub some_open : {A : Type 0} (b : Bool) (x y : A) → Some x ≡ (if b then Some y else None) → b ≡ true
some_open true x y e = refl
some_open false x y e = cc
