-- What joining and leaving a room make of a hub.
use Rattle.std.proofs.Common.{◌≡◌, ℕ, ◌+◌, ◌≤◌, Bool, true, false, List, ◌∷◌, max, refl, sym, ◌∙◌, ap, subst, arith, Option, None, Some}
use Rattle.room_maps.specs.Membership.{RoomSets, AreConsistent, with_pair, without_pair}
use Rattle.room_maps.specs.Membership as room_maps
use Rattle.room_maps.specs.declared.error.RoomError.{RoomError}
use Rattle.room_maps.proofs.MembershipLaws.{is_socket-with_pair, is_socket-without_pair}
use Rattle.recovery.specs.PacketLog.{LogContents}
use Rattle.recovery.specs.SavedTable.{TableContents}
use Rattle.journal.specs.declared.socket.Socket.{Socket}
use Rattle.journal.specs.declared.step.Step.{Step}
use Rattle.journal.specs.declared.step.What.TheVariants.{Joined, Left}
use Rattle.journal.specs.declared.totals.Counts.{Counts}
use Rattle.journal.specs.Plain.{PlainBase, Limits, PlainClient}
use Rattle.journal.specs.Journal.{moment}
use Rattle.journal.specs.Membership.{open_clients, sid_of, is_connected, rooms}
use Rattle.journal.specs.Outboxes.{put, taken_by}
use Rattle.journal.specs.Totals.{placed_by, is_spent}
use Rattle.journal.specs.Refusals.{or_spent, room_refusal, join_refusal, leave_refusal}
use Rattle.journal.specs.Legal.{IsAllowed, IsLegal, IsSound}
use Rattle.journal.specs.Fields.{Counted, CanCount, client_at}
use Rattle.journal.proofs.SumsLemmas.{sum-zero}
use Rattle.journal.proofs.MembershipLemmas.{is_open-quiet, sockets_of-quiet}
use Rattle.journal.proofs.OutboxesLemmas.{waiting-quiet}
use Rattle.journal.proofs.HubLemmas.{legal-step, fields-quiet, sound-quiet}
use Rattle.journal.proofs.CountsLemmas.{counted, can, unrefused, unspent}
use Rattle.journal.proofs.CommandLemmas.{IsHub}

module _ (base : PlainBase) (limits : Limits) where
  -- a client of which the step says nothing
  joined-client : (s : ℕ) (room : List ℕ) (at : ℕ) (before : List Step) → IsLegal base limits before → (q : ℕ) → client_at base limits (record { at = at; what = Joined s room } ∷ before) q ≡ client_at base limits before q
  unfolding put
  joined-client s room at before legal q =
      let step : Step = record { at = at; what = Joined s room } in
      rw (is_open-quiet base step before refl (λ c. refl) q, sockets_of-quiet base step before refl (λ k. refl) q, waiting-quiet base limits step before legal q refl refl refl) refl

  left-client : (s : ℕ) (room : List ℕ) (at : ℕ) (before : List Step) → IsLegal base limits before → (q : ℕ) → client_at base limits (record { at = at; what = Left s room } ∷ before) q ≡ client_at base limits before q
  unfolding put
  left-client s room at before legal q =
      let step : Step = record { at = at; what = Left s room } in
      rw (is_open-quiet base step before refl (λ c. refl) q, sockets_of-quiet base step before refl (λ k. refl) q, waiting-quiet base limits step before legal q refl refl refl) refl

  pub puts_joined : (before : List Step) (s : ℕ) (room : List ℕ) → placed_by base limits before (Joined s room) ≡ 0
  unfolding put
  puts_joined before s room = refl

  pub puts_left : (before : List Step) (s : ℕ) (room : List ℕ) → placed_by base limits before (Left s room) ≡ 0
  unfolding put
  puts_left before s room = refl

  pub joined : (s : ℕ) (room : List ℕ) (now newest : ℕ) (find : ℕ → Option PlainClient) (seat : ℕ → Option Socket) (is_pid : ℕ → Bool) (sets sets' : RoomSets) (table : TableContents) (packets : LogContents) (counts : Counts) (before : List Step)
      → IsHub base limits find seat is_pid sets table packets newest counts before
      → None ≡ or_spent (join_refusal base before s room) (is_spent base limits before (Joined s room))
      → sets' ≡ with_pair sets s room → AreConsistent sets'
      → IsHub base limits find seat is_pid sets' table packets (max now newest) (record { commands = counts.commands + 1; placed = counts.placed + 0; dropped = counts.dropped + 0; taken = counts.taken + 0; discarded = counts.discarded + 0 }) (record { at = max now newest; what = Joined s room } ∷ before)
  unfolding put
  joined s room now newest find seat is_pid sets sets' table packets counts before was accepted change consistent =
      let step : Step = record { at = max now newest; what = Joined s room } in
      let late : moment base before ≤ max now newest = rw (← was.0.last) (omega arith) in
      let agree : AreConsistent (with_pair (rooms base before) s room) = subst AreConsistent (change ∙ ap (λ v. with_pair v s room) was.0.rooms_are) consistent in
      let fine : IsAllowed base limits before step step.what = (sym accepted, tt) in (
        fields-quiet base limits step before find find seat is_pid sets sets' table packets newest was.0 refl (λ k. refl) (record { same_sessions = refl; no_call = refl; unused = refl }) (omega arith) change (λ q. was.0.clients q ∙ sym (joined-client s room (max now newest) before was.1 q)),
        legal-step base limits step before fine late was.1,
        sound-quiet base limits step before was.1 fine was.2 late refl (λ c. refl) refl (λ k. refl) (λ c. refl) (record { same_sessions = refl; no_call = refl; unused = refl }) (is_socket-with_pair (rooms base before) s room) agree tt (sum-zero (λ c. taken_by c (Joined s room)) (open_clients base before) (λ c e. refl)) refl,
        counted base limits before counts was.3 was.2.conserved step 0 0 0 0 (puts_joined before s room) refl refl refl,
      )

  pub can_join : (before : List Step) (counts : Counts) → Counted base limits counts before → IsSound base limits before → (s : ℕ) (room : List ℕ) → None ≡ or_spent (join_refusal base before s room) (is_spent base limits before (Joined s room)) → CanCount counts 0 0 0 0
  can_join before counts was sound s room accepted =
      can base limits before counts was sound.conserved (Joined s room) 0 0 0 0 (puts_joined before s room) refl refl refl (unspent (join_refusal base before s room) (is_spent base limits before (Joined s room)) accepted)

  pub left : (s : ℕ) (room : List ℕ) (now newest : ℕ) (find : ℕ → Option PlainClient) (seat : ℕ → Option Socket) (is_pid : ℕ → Bool) (sets sets' : RoomSets) (table : TableContents) (packets : LogContents) (counts : Counts) (before : List Step)
      → IsHub base limits find seat is_pid sets table packets newest counts before
      → None ≡ or_spent (leave_refusal base before s room) (is_spent base limits before (Left s room))
      → sets' ≡ without_pair sets s room → AreConsistent sets'
      → IsHub base limits find seat is_pid sets' table packets (max now newest) (record { commands = counts.commands + 1; placed = counts.placed + 0; dropped = counts.dropped + 0; taken = counts.taken + 0; discarded = counts.discarded + 0 }) (record { at = max now newest; what = Left s room } ∷ before)
  unfolding put
  left s room now newest find seat is_pid sets sets' table packets counts before was accepted change consistent =
      let step : Step = record { at = max now newest; what = Left s room } in
      let late : moment base before ≤ max now newest = rw (← was.0.last) (omega arith) in
      let agree : AreConsistent (without_pair (rooms base before) s room) = subst AreConsistent (change ∙ ap (λ v. without_pair v s room) was.0.rooms_are) consistent in
      let fine : IsAllowed base limits before step step.what = (sym accepted, tt) in (
        fields-quiet base limits step before find find seat is_pid sets sets' table packets newest was.0 refl (λ k. refl) (record { same_sessions = refl; no_call = refl; unused = refl }) (omega arith) change (λ q. was.0.clients q ∙ sym (left-client s room (max now newest) before was.1 q)),
        legal-step base limits step before fine late was.1,
        sound-quiet base limits step before was.1 fine was.2 late refl (λ c. refl) refl (λ k. refl) (λ c. refl) (record { same_sessions = refl; no_call = refl; unused = refl }) (is_socket-without_pair (rooms base before) s room) agree tt (sum-zero (λ c. taken_by c (Left s room)) (open_clients base before) (λ c e. refl)) refl,
        counted base limits before counts was.3 was.2.conserved step 0 0 0 0 (puts_left before s room) refl refl refl,
      )

  pub can_leave : (before : List Step) (counts : Counts) → Counted base limits counts before → IsSound base limits before → (s : ℕ) (room : List ℕ) → None ≡ or_spent (leave_refusal base before s room) (is_spent base limits before (Left s room)) → CanCount counts 0 0 0 0
  can_leave before counts was sound s room accepted =
      can base limits before counts was sound.conserved (Left s room) 0 0 0 0 (puts_left before s room) refl refl refl (unspent (leave_refusal base before s room) (is_spent base limits before (Left s room)) accepted)

  room_free : (known : Bool) (refusal : Option RoomError) → room_refusal known refusal ≡ None → refusal ≡ None
  room_free false refusal e = cc
  room_free true None e = refl
  room_free true (Some x) e = cc

  -- the rooms let the socket leave
  pub may_leave : (sets : RoomSets) (before : List Step) (s : ℕ) (room : List ℕ) → sets ≡ rooms base before → None ≡ or_spent (leave_refusal base before s room) (is_spent base limits before (Left s room)) → room_maps.leave_refusal sets s room ≡ None
  may_leave sets before s room same accepted =
      ap (λ v. room_maps.leave_refusal v s room) same
      ∙ room_free (is_connected sid_of base before s) (room_maps.leave_refusal (rooms base before) s room) (unrefused (leave_refusal base before s room) (is_spent base limits before (Left s room)) accepted)
