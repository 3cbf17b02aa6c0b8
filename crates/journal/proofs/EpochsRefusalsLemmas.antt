-- After two histories that say the same the same steps are allowed.
use Rattle.std.proofs.Common.{◌≡◌, ℕ, ◌+◌, ◌-◌, ◌==◌, min, Bool, true, false, ◌&&◌, ◌||◌, not, List, [], ◌∷◌, ◌++◌, length, refl, sym, ◌∙◌, ap, subst, if◌then◌else◌, Option, None, Some, nat_le, nat_lt, nat_cmp, append-nil}
use Rattle.std.specs.Prelude.{is_some, IfSome, unwrap_or}
use Rattle.std.specs.Option.{option_map_or}
use Rattle.std.proofs.lemmas.Bool.{eqb-true}
use Rattle.terms.specs.Listing.{ListsRising}
use Rattle.terms.specs.Refusal.{first_refusal}
use Rattle.terms.specs.Room.{same_room, own_room}
use Rattle.room_maps.specs.Membership as room_maps
use Rattle.room_maps.specs.Membership.{is_in}
use Rattle.room_maps.specs.Addressed as broadcast
use Rattle.room_maps.specs.declared.error.RoomError.TheVariants.{OwnRoom, TooManyRooms}
use Rattle.recovery.specs.Missed.{missed}
use Rattle.recovery.specs.PacketLog.{PlainLogged}
use Rattle.recovery.specs.SavedTable.{PlainSaved}
use Rattle.terms.specs.declared.entry.Entry.{Entry}
use Rattle.journal.specs.declared.error.HubError.{HubError}
use Rattle.journal.specs.declared.error.HubError.TheVariants.{IdTaken, UnknownClient, UnknownNamespace, UnknownSocket, AlreadyConnected, TooManyClients, OutboxFull, RoomRefused, SavedFull, Spent}
use Rattle.journal.specs.declared.socket.Socket.{Socket}
use Rattle.journal.specs.declared.step.Step.{Step}
use Rattle.journal.specs.declared.step.What.{What}
use Rattle.journal.specs.declared.step.What.TheVariants.{Opened, Attached, Recovered, Joined, Left, AllJoined, AllLeft, Cast, Told, Took, Parked, Ended, AllEnded, Closed, Swept}
use Rattle.journal.specs.declared.totals.Totals.{Totals}
use Rattle.journal.specs.Plain.{PlainBase, Limits, PlainBroadcast, PlainRoomChange}
use Rattle.journal.specs.Journal.{history}
use Rattle.journal.specs.Membership.{is_open, is_space, rooms, matches}
use Rattle.journal.specs.Sessions.{session_with, is_sid_saved, is_pid_saved}
use Rattle.journal.specs.Log.{next}
use Rattle.journal.specs.Outboxes.{answer, farewell, has_no_space, is_full, is_addressed, entries_of, placements}
use Rattle.journal.specs.Broadcast.{RightCast}
use Rattle.journal.specs.ManySockets.{may_enter, may_exit, may_hear}
use Rattle.journal.specs.Totals.{dropped_by, handed_out_by, is_past, is_spent}
use Rattle.journal.specs.Refusals.{or_spent, tell_refusal, is_taken, attach_refusal, room_refusal, session_refusal, have_no_space, recover_refusal, joining_refusal, leaving_refusal}
use Rattle.journal.specs.Command.{own_refusal, refusal}
use Rattle.journal.specs.Legal.{IsSound, IsRight, IsAllowed}
use Rattle.journal.specs.Seal.{SaysTheSame}
use Rattle.journal.proofs.CommandLemmas.{not_open}
use Rattle.journal.proofs.EpochsSocketsLemmas.{any-socket-as, as-many-clients, socket_of-same}
use Rattle.journal.proofs.EpochsOutboxesLemmas.{placements-cast, addressed-same, placed-same, EndsOpen, OpensNew, discarded-same}

-- a list with just what passes one test has just what passes another that agrees with it
lists-as : (p' p : ℕ → Bool) (items : List ℕ) → ((x : ℕ) → p' x ≡ p x) → ListsRising nat_cmp p' items → ListsRising nat_cmp p items
lists-as p' p items agree lists = record { rises = lists.rises; exactly = λ x. lists.exactly x ∙ agree x }

-- a command that isn't refused for want of its client
is-known : (b : Bool) (rest : Option HubError) → (if not b then Some UnknownClient else rest) ≡ None → b ≡ true
is-known true rest e = refl
is-known false rest e = absurd (cc e)

module _ (base : PlainBase) (limits : Limits) (before : List Step) where
  -- what an accepted step ends was open
  pub ends-open : (at : ℕ) (what : What) → own_refusal (history base limits before) at what ≡ None → EndsOpen base limits before what
  ends-open at (Parked d) free c e = subst (λ z. is_open base before z ≡ true) (eqb-true d c e) (is-known (is_open base before d) _ free)
  ends-open at (Closed d) free c e = subst (λ z. is_open base before z ≡ true) (eqb-true d c e) (is-known (is_open base before d) _ free)
  ends-open at _ free c e = absurd (cc e)

  -- what it opens wasn't
  pub opens-new : (at : ℕ) (what : What) → own_refusal (history base limits before) at what ≡ None → OpensNew base limits before what
  opens-new at (Opened c) free d e = subst (λ z. is_open base before z ≡ false) (eqb-true c d e) (not_open base limits c before free)
  opens-new at _ free d e = absurd (cc e)

-- why a recovery is refused, of what its reasons are read from
abbrev recovery_refusal : Limits → Bool → Option Socket → List PlainSaved → List PlainLogged → List Entry → (client space pid offset at : ℕ) → Option HubError
recovery_refusal limits opened connected saved entries waits c space p offset at =
    let session = session_with p saved in
    let refused = session_refusal limits entries session space offset at in
    let crowded = λ (s : PlainSaved). have_no_space limits waits (answer limits (record { client = c; space = space; sid = s.sid; pid = p }) ∷ entries_of entries (missed offset space s.rooms entries)) in
    first_refusal (
    (not opened, UnknownClient)
    ∷ (not (is_space limits space), UnknownNamespace)
    ∷ (is_some connected, AlreadyConnected)
    ∷ (is_some refused, unwrap_or refused Spent)
    ∷ (option_map_or crowded session false, OutboxFull)
    ∷ [])

module _ (limits : Limits) (base base' : PlainBase) (before before' : List Step) (sound : IsSound base limits before) (sound' : IsSound base' limits before') (same : SaysTheSame (history base limits before) (history base' limits before')) where
  -- ---- refusals

  is_full-same : (c : ℕ) → is_open base before c ≡ true → (entry : Entry) → is_full base' limits before' c entry ≡ is_full base limits before c entry
  is_full-same c known entry = ap (λ w. has_no_space limits.capacity limits.bytes w entry) (same.same_waiting c known)

  matches-same : (space : ℕ) (named excepted : List (List ℕ)) (k : Socket) → matches base' before' space named excepted k ≡ matches base before space named excepted k
  matches-same space named excepted k = ap (λ sets. k.space == space && broadcast.is_addressed sets named excepted k.sid) same.same_rooms

  may_enter-same : (m : PlainRoomChange) (k : Socket) → may_enter base' before' m.space m.rooms m.excepted m.room k ≡ may_enter base before m.space m.rooms m.excepted m.room k
  may_enter-same m k = λ i. matches-same m.space m.rooms m.excepted k i && not (is_in (same.same_rooms i) k.sid m.room)

  may_exit-same : (m : PlainRoomChange) (k : Socket) → may_exit base' before' m.space m.rooms m.excepted m.room k ≡ may_exit base before m.space m.rooms m.excepted m.room k
  may_exit-same m k = λ i. matches-same m.space m.rooms m.excepted k i && is_in (same.same_rooms i) k.sid m.room

  taken-same : (k : Socket) → is_taken base' limits before' k ≡ is_taken base limits before k
  taken-same k = λ i.
      (is_some (same.same_by_sid k.sid i) || is_sid_saved (same.same_sessions i) k.sid) || (is_some (same.same_by_pid k.pid i) || is_pid_saved (same.same_sessions i) k.pid)

  attach-same : (k : Socket) → attach_refusal base' limits before' k ≡ attach_refusal base limits before k
  attach-same k = on (is_open base before k.client) refl
    where
      on : (b : Bool) → is_open base before k.client ≡ b → attach_refusal base' limits before' k ≡ attach_refusal base limits before k
      on true e = λ i. first_refusal (
          (not (same.same_open k.client i), UnknownClient)
          ∷ (not (is_space limits k.space), UnknownNamespace)
          ∷ (is_some (socket_of-same limits base base' before before' sound sound' same k.client k.space i), AlreadyConnected)
          ∷ (taken-same k i, IdTaken)
          ∷ (is_full-same k.client e (answer limits k) i, OutboxFull)
          ∷ [])
      on false e = rw (same.same_open k.client, e) refl

  tell-same : (c : ℕ) (entry : Entry) → tell_refusal base' limits before' c entry ≡ tell_refusal base limits before c entry
  tell-same c entry = on (is_open base before c) refl
    where
      on : (b : Bool) → is_open base before c ≡ b → tell_refusal base' limits before' c entry ≡ tell_refusal base limits before c entry
      on true e = λ i. first_refusal ((not (same.same_open c i), UnknownClient) ∷ (is_full-same c e entry i, OutboxFull) ∷ [])
      on false e = rw (same.same_open c, e) refl

  recover-same : (c space pid offset at : ℕ) → recover_refusal base' limits before' c space pid offset at ≡ recover_refusal base limits before c space pid offset at
  recover-same c space pid offset at = on (is_open base before c) refl
    where
      on : (b : Bool) → is_open base before c ≡ b → recover_refusal base' limits before' c space pid offset at ≡ recover_refusal base limits before c space pid offset at
      on true e = λ i. recovery_refusal limits (same.same_open c i) (socket_of-same limits base base' before before' sound sound' same c space i) (same.same_sessions i) (same.same_log i) (same.same_waiting c e i) c space pid offset at
      on false e = rw (same.same_open c, e) refl

  joining-same : (m : PlainRoomChange) → joining_refusal base' limits before' m ≡ joining_refusal base limits before m
  joining-same m =
      ap (λ b. first_refusal ((not (is_space limits m.space), UnknownNamespace) ∷ (b, RoomRefused TooManyRooms) ∷ []))
      (any-socket-as limits base base' before before' sound sound' same
      (λ k. may_enter base' before' m.space m.rooms m.excepted m.room k && room_maps.is_full (rooms base' before') k.sid)
      (λ k. may_enter base before m.space m.rooms m.excepted m.room k && room_maps.is_full (rooms base before) k.sid)
      (λ k known i. may_enter-same m k i && room_maps.is_full (same.same_rooms i) k.sid))

  leaving-same : (m : PlainRoomChange) → leaving_refusal base' limits before' m ≡ leaving_refusal base limits before m
  leaving-same m =
      ap (λ b. first_refusal ((not (is_space limits m.space), UnknownNamespace) ∷ (b, RoomRefused OwnRoom) ∷ []))
      (any-socket-as limits base base' before before' sound sound' same
      (λ k. matches base' before' m.space m.rooms m.excepted k && same_room (own_room k.sid) m.room)
      (λ k. matches base before m.space m.rooms m.excepted k && same_room (own_room k.sid) m.room)
      (λ k known i. matches-same m.space m.rooms m.excepted k i && same_room (own_room k.sid) m.room))

  own_refusal-same : (at : ℕ) (what : What) → own_refusal (history base' limits before') at what ≡ own_refusal (history base limits before) at what
  own_refusal-same at (Opened c) = λ i. first_refusal ((same.same_open c i, IdTaken) ∷ (nat_le limits.clients (as-many-clients limits base base' before before' sound sound' same i), TooManyClients) ∷ [])
  own_refusal-same at (Attached k) = attach-same k
  own_refusal-same at (Recovered r) = recover-same r.socket.client r.socket.space r.socket.pid r.offset at
  own_refusal-same at (Joined s room) = λ i. room_refusal (is_some (same.same_by_sid s i)) (room_maps.join_refusal (same.same_rooms i) s room)
  own_refusal-same at (Left s room) = λ i. room_refusal (is_some (same.same_by_sid s i)) (room_maps.leave_refusal (same.same_rooms i) s room)
  own_refusal-same at (AllJoined m) = joining-same m
  own_refusal-same at (AllLeft m) = leaving-same m
  own_refusal-same at (Cast b) = refl
  own_refusal-same at (Told m) = tell-same m.client m.entry
  own_refusal-same at (Took c most n) = ap (λ b. first_refusal ((not b, UnknownClient) ∷ [])) (same.same_open c)
  own_refusal-same at (Parked c) = λ i. first_refusal ((not (same.same_open c i), UnknownClient) ∷ (nat_lt (limits.saved - length (same.same_sessions i)) (length (same.same_sockets c i)), SavedFull) ∷ [])
  own_refusal-same at (Ended s by) = λ i. first_refusal ((not (is_some (same.same_by_sid s i)), UnknownSocket) ∷ [])
  own_refusal-same at (AllEnded d) = refl
  own_refusal-same at (Closed c) = ap (λ b. first_refusal ((not b, UnknownClient) ∷ [])) (same.same_open c)
  own_refusal-same at Swept = refl

  is_spent-same : (what : What) → EndsOpen base limits before what → is_spent base' limits before' what ≡ is_spent base limits before what
  is_spent-same what known = λ i.
      is_past (Totals.commands (same.same_totals i) + 1)
      || is_past (Totals.placed (same.same_totals i) + placed-same limits base base' before before' sound sound' same what i)
      || is_past (Totals.dropped (same.same_totals i) + dropped_by what)
      || is_past (Totals.taken (same.same_totals i) + handed_out_by what)
      || is_past (Totals.discarded (same.same_totals i) + discarded-same limits base base' before before' sound sound' same what known i)

  pub refusal-same : (at : ℕ) (what : What) → refusal (history base' limits before') at what ≡ refusal (history base limits before) at what
  refusal-same at what = on (own_refusal (history base limits before) at what) refl
    where
      on : (o : Option HubError) → own_refusal (history base limits before) at what ≡ o → refusal (history base' limits before') at what ≡ refusal (history base limits before) at what
      on None e = λ i. or_spent (own_refusal-same at what i) (is_spent-same what (ends-open base limits before at what e) i)
      on (Some x) e =
          ap (λ o. or_spent o (is_spent base' limits before' what)) (own_refusal-same at what ∙ e)
          ∙ sym (ap (λ o. or_spent o (is_spent base limits before what)) e)

  -- ---- what a step tells

  right-cast : (at : ℕ) (b : PlainBroadcast) → RightCast base' limits before' (record { at = at; what = Cast b }) b → RightCast base limits before (record { at = at; what = Cast b }) b
  right-cast at b right = record {
    drops = λ s. right.drops s ∙ any-socket-as limits base base' before before' sound sound' same
        (λ k. k.sid == s && (is_addressed base' before' b k && is_full base' limits before' k.client b.entry))
        (λ k. k.sid == s && (is_addressed base before b k && is_full base limits before k.client b.entry))
        (λ k known i. k.sid == s && (addressed-same limits base base' before before' sound sound' same b k i && is_full-same k.client known b.entry i));
    each_once = right.each_once;
    places = λ q e. placements-cast base limits before sound.sockets_apart b at q ∙ ap (λ t. placements base limits before q ++ (if t then b.entry ∷ [] else [])) e;
    others = λ q e. placements-cast base limits before sound.sockets_apart b at q ∙ ap (λ t. placements base limits before q ++ (if t then b.entry ∷ [] else [])) e ∙ append-nil (placements base limits before q);
  }

  numbered : (o : Option ℕ) → IfSome o (λ offset. next base' before' ≡ Some offset) → IfSome o (λ offset. next base before ≡ Some offset)
  numbered None h = h
  numbered (Some o) h = sym same.same_next ∙ h

  right-back : (at : ℕ) (what : What) → own_refusal (history base limits before) at what ≡ None → IsRight base' limits before' (record { at = at; what = what }) what → IsRight base limits before (record { at = at; what = what }) what
  right-back at (Recovered r) free right = record {
    lost_at = right.lost_at;
    session = ap (session_with r.socket.pid) (sym same.same_sessions) ∙ right.session;
    missed_is = right.missed_is ∙ ap (missed r.offset r.socket.space r.rooms) same.same_log;
  }
  right-back at (AllJoined m) free right = record {
    changed = lists-as _ _ m.changed (λ x. any-socket-as limits base base' before before' sound sound' same
        (λ k. k.sid == x && may_enter base' before' m.space m.rooms m.excepted m.room k) (λ k. k.sid == x && may_enter base before m.space m.rooms m.excepted m.room k)
        (λ k known i. k.sid == x && may_enter-same m k i)) right.changed;
  }
  right-back at (AllLeft m) free right = record {
    changed = lists-as _ _ m.changed (λ x. any-socket-as limits base base' before before' sound sound' same
        (λ k. k.sid == x && may_exit base' before' m.space m.rooms m.excepted m.room k) (λ k. k.sid == x && may_exit base before m.space m.rooms m.excepted m.room k)
        (λ k known i. k.sid == x && may_exit-same m k i)) right.changed;
  }
  right-back at (Cast b) free right = record { formed = right.formed; offset = numbered b.offset right.offset; cast = right-cast at b right.cast }
  right-back at (Took c most n) free right = right ∙ ap (λ w. min most (length w)) (same.same_waiting c (is-known (is_open base before c) _ free))
  right-back at (AllEnded d) free right = record {
    ended = lists-as _ _ d.ended (λ x. any-socket-as limits base base' before before' sound sound' same
        (λ k. k.sid == x && matches base' before' d.space d.rooms d.excepted k) (λ k. k.sid == x && matches base before d.space d.rooms d.excepted k)
        (λ k known i. k.sid == x && matches-same d.space d.rooms d.excepted k i)) right.ended;
    told = lists-as _ _ d.told (λ x. any-socket-as limits base base' before before' sound sound' same
        (λ k. k.client == x && may_hear base' limits before' d.space d.rooms d.excepted k) (λ k. k.client == x && may_hear base limits before d.space d.rooms d.excepted k)
        (λ k known i. k.client == x && (matches-same d.space d.rooms d.excepted k i && not (is_full-same k.client known (farewell limits d.space) i)))) right.told;
  }
  right-back at _ free right = tt

  pub allowed-back : (at : ℕ) (what : What) → own_refusal (history base limits before) at what ≡ None
      → IsAllowed base' limits before' (record { at = at; what = what }) what → IsAllowed base limits before (record { at = at; what = what }) what
  allowed-back at what free allowed = (sym (refusal-same at what) ∙ allowed.0, right-back at what free allowed.1)
