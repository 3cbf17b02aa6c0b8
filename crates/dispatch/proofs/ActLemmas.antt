-- What an effect in its turn leaves: the client stays open unless it is closed, and its socket connected unless it ends. And
-- how the functions come to what an effect does.
use Rattle.std.proofs.Common.{◌≡◌, ℕ, Bool, true, false, not, ◌==◌, ◌||◌, List, [], ◌∷◌, ◌++◌, filter, refl, sym, ◌∙◌, ap, subst, is_some, is_none, Option, None, Some, Result, Ok, Err, OnOk, IfErr, OnErr, inl, inr}
use Rattle.connection.specs.Line.{PlainLine}
use Rattle.terms.specs.declared.entry.Entry.{Entry}
use Rattle.room_maps.specs.declared.error.RoomError.{RoomError}
use Rattle.journal.specs.declared.socket.Socket.{Socket}
use Rattle.journal.specs.declared.error.HubError.TheVariants as hub
use Rattle.journal.specs.declared.step.What.{What}
use Rattle.journal.specs.declared.ending.Side.TheVariants as side
use Rattle.journal.specs.declared.step.What.TheVariants as what
use Rattle.journal.specs.Journal.{History}
use Rattle.journal.specs.Membership.{is_open, ends, connects, closes}
use Rattle.journal.proofs.SocketsLemmas.{neither}
use Rattle.events.specs.declared.app.Effect.{Effect}
use Rattle.events.specs.declared.app.Effect.TheVariants.{Join, Leave, Emit, EmitAsk, Reply, Report, Fetch, Disconnect, AllJoin, AllLeave, AllEnd}
use Rattle.events.specs.declared.app.Reply as reply
use Rattle.events.specs.declared.app.Who.{Who}
use Rattle.dispatch.specs.declared.scene.Tally.{Tally}
use Rattle.events.specs.declared.cause.Cause.{Cause}
use Rattle.events.specs.declared.cause.Cause.TheVariants.{OutboxFull}
use Rattle.events.specs.declared.fault.CoreFault.{CoreFault}
use Rattle.events.specs.declared.fault.CoreFault.TheVariants.{BadEffect}
use Rattle.dispatch.specs.Commands.{Makes, StopsAt, DoesOr, IsSeated}
use Rattle.dispatch.specs.Effects.{Scene, scene, IsReply, Replies, FailsToReply, Closes, is_bad, is_wrong, told_to, goodbye, dismissed, all_joined, all_left, ChangesRooms, SaysGoodbye, Acts, ActsInTurn, Stops, Fails, FailsAt, StandsWith}
use Rattle.events.specs.Plain.{PlainDone, one_more, told}
use Rattle.dispatch.proofs.StepLemmas.{itself, open-still, open-no-more, seated-still, seated-among}

-- ---- the client and its socket

-- an allowed effect comes while the socket isn't disconnected
pub not-ended : (a b : Bool) → (a || b) ≡ false → a ≡ false
not-ended a b is = (neither a b is).0

module _ (who : Who) (now : ℕ) where
  -- where nothing was closed or ended, the socket is where it was
  pub stands-seated : (t : Scene) → t.done.closed ≡ None → IsSeated who t.history → StandsWith who t
  stands-seated t fresh seated = record { open_client = seated.open_client ∙ sym (ap (λ (o : Option Cause). is_none o) fresh); seated = λ _ _. seated }

  stands-closed : (cause : Cause) (s t : Scene) → Closes who.client now cause s t → StandsWith who t
  stands-closed cause s t (made, is) =
      let closed = ap (λ (u : Scene). u.done.closed) is in
      record {
        open_client = open-no-more s.history t.history now (what.Closed who.client) made.1 who.client (itself who.client) refl ∙ sym (ap (λ (o : Option Cause). is_none o) closed);
        seated = λ fresh _. absurd (cc (fresh, closed));
      }

  -- after a step that ends and closes nothing here
  module _ (w : What) (none : (l : Socket) → ends w l ≡ false) (nobody : connects w ≡ []) (stays : closes w who.client ≡ false) where
    stands-made : (s t : Scene) → Makes s.history now w t.history → t.done.closed ≡ s.done.closed → s.done.closed ≡ None → IsSeated who s.history → StandsWith who t
    stands-made s t made same fresh seated = stands-seated t (same ∙ fresh) (seated-still s.history t.history now w made.1 who seated none nobody stays)

    stands-rooms : (s t : Scene) → ChangesRooms w now s t → s.done.closed ≡ None → IsSeated who s.history → StandsWith who t
    stands-rooms s t (inl (made, is)) fresh seated = stands-made s t made (ap (λ (u : Scene). u.done.closed) is) fresh seated
    stands-rooms s t (inr (e, refused, is)) fresh seated =
        stands-seated t (ap (λ (u : Scene). u.done.closed) is ∙ fresh) (subst (IsSeated who) (sym (ap (λ (u : Scene). u.history) is)) seated)

  pub seated-after : (h g : History) → SaysGoodbye who now h g → IsSeated who h → IsSeated who g
  seated-after h g (inl made) seated = seated-still h g now (goodbye who) made.1 who seated (λ l. refl) refl refl
  seated-after h g (inr (refused, same)) seated = subst (IsSeated who) (sym same) seated

  stands-ended : (s t : Scene) (w : What) (made : Makes s.history now w t.history) → closes w who.client ≡ false → t.done.closed ≡ s.done.closed → s.done.closed ≡ None
      → is_open s.history.base s.history.journal who.client ≡ true → (t.ended ≡ false → IsSeated who t.history) → StandsWith who t
  stands-ended s t w made stays same fresh is seated =
      record {
        open_client = open-still s.history t.history now w made.1 who.client is stays ∙ sym (ap (λ (o : Option Cause). is_none o) (same ∙ fresh));
        seated = λ _ on. seated on;
      }

  stands-replies : (s t : Scene) (id : ℕ) (r : reply.Reply) → Replies who id r now s t → s.done.closed ≡ None → IsSeated who s.history → StandsWith who t
  stands-replies s t id r (entry, is, inl (made, same)) fresh seated =
      stands-made (told_to who.client entry) (λ l. refl) refl refl s t made (ap (λ (u : Scene). u.done.closed) same) fresh seated
  stands-replies s t id r (entry, is, inr (refused, closed)) fresh seated = stands-closed OutboxFull s t closed

  acts-stands : (s t : Scene) (effect : Effect) → s.done.closed ≡ None → IsSeated who s.history → Acts who now s effect t → StandsWith who t
  acts-stands s t (Join room) fresh seated acts = stands-rooms (what.Joined who.sid room) (λ l. refl) refl refl s t acts fresh seated
  acts-stands s t (Leave room) fresh seated acts = stands-rooms (what.Left who.sid room) (λ l. refl) refl refl s t acts fresh seated
  acts-stands s t (Emit e) fresh seated ((allowed, done, cast, told), is) =
      stands-seated t (ap (λ (d : PlainDone). d.closed) told ∙ fresh) (seated-still s.history t.history now (what.Cast cast.b) cast.step who seated (λ l. refl) refl refl)
  acts-stands s t (Reply r) fresh seated (id, asked, replies) = stands-replies s t id _ replies fresh seated
  acts-stands s t Report fresh seated (id, asked, replies) = stands-replies s t id _ replies fresh seated
  acts-stands s t (Fetch m) fresh seated (id, asked, replies) = stands-replies s t id _ replies fresh seated
  acts-stands s t (EmitAsk q) fresh seated (id, next, entry, is, inl (made, advances, same)) =
      stands-made (told_to who.client entry) (λ l. refl) refl refl s t made (ap (λ (u : Scene). u.done.closed) same) fresh seated
  acts-stands s t (EmitAsk q) fresh seated (id, next, entry, is, inr (refused, vain, closed)) = stands-closed OutboxFull (record s { line = t.line }) t closed
  acts-stands s t Disconnect fresh seated (between, says, made, advances, same) =
      let there = seated-after s.history between says seated in
      stands-ended (record s { history = between }) t (what.Ended who.sid side.Server) made refl (ap (λ (u : Scene). u.done.closed) same) fresh there.open_client
      (λ on. absurd (cc (on, ap (λ (u : Scene). u.ended) same)))
  acts-stands s t (AllJoin m room) fresh seated acts = stands-rooms (all_joined m room s.history) (λ l. refl) refl refl s t acts fresh seated
  acts-stands s t (AllLeave m room) fresh seated acts = stands-rooms (all_left m room s.history) (λ l. refl) refl refl s t acts fresh seated
  acts-stands s t (AllEnd m) fresh seated (made, same, line) =
      let d = dismissed m s.history in
      stands-ended s t (what.AllEnded d) made refl (ap (λ (u : Scene). u.done.closed) same) fresh seated.open_client
      (λ on. seated-among s.history t.history now d made.1 who seated (sym (ap (λ (u : Scene). u.ended) same) ∙ on))

  -- by an effect in its turn
  pub stands : (s t : Scene) (effect : Effect) → StandsWith who s → ActsInTurn who now s effect t → StandsWith who t
  stands s t effect was acts = on s.done.closed refl acts
    where
      on : (o : Option Cause) → s.done.closed ≡ o
          → elim o as (λ (o : Option Cause). Type 0) [ Some cause ↦ t ≡ s | None ↦ (is_bad s effect ≡ false) × Acts who now s effect t ] → StandsWith who t
      on (Some cause) found same = subst (StandsWith who) (sym same) was
      on None found (fine, acts) = acts-stands s t effect found (was.seated found (not-ended s.ended (is_wrong s.history.limits s.asked effect) fine)) acts

  -- an effect that ends the event leaves the socket where it was
  stops-at : (w : What) (s t : Scene) (fault : CoreFault) → StandsWith who s → FailsAt w now s fault t → StandsWith who t
  stops-at w s t fault was (stops, same) = subst (StandsWith who) (sym same) was

  fails-stands : (s t : Scene) (effect : Effect) (fault : CoreFault) → s.done.closed ≡ None → s.ended ≡ false → StandsWith who s → Fails who now s effect fault t → StandsWith who t
  fails-stands s t (Join room) fault fresh on was fails = stops-at (what.Joined who.sid room) s t fault was fails
  fails-stands s t (Leave room) fault fresh on was fails = stops-at (what.Left who.sid room) s t fault was fails
  fails-stands s t (Emit e) fault fresh on was (why, same) = subst (StandsWith who) (sym same) was
  fails-stands s t (Reply r) fault fresh on was (id, asked, (same, why)) = subst (StandsWith who) (sym same) was
  fails-stands s t Report fault fresh on was (id, asked, (same, why)) = subst (StandsWith who) (sym same) was
  fails-stands s t (Fetch m) fault fresh on was (id, asked, (same, why)) = subst (StandsWith who) (sym same) was
  fails-stands s t (EmitAsk q) fault fresh on was (same, why) = subst (StandsWith who) (sym same) (record { open_client = was.open_client; seated = was.seated })
  fails-stands s t Disconnect fault fresh on was (inl (short, same)) = subst (StandsWith who) (sym same) was
  fails-stands s t Disconnect fault fresh on was (inr (inl fails)) = stops-at (goodbye who) s t fault was fails
  fails-stands s t Disconnect fault fresh on was (inr (inr (between, says, fails))) =
      stops-at (what.Ended who.sid side.Server) (record s { history = between }) t fault (stands-seated (record s { history = between }) fresh (seated-after s.history between says (was.seated fresh on))) fails
  fails-stands s t (AllJoin m room) fault fresh on was fails = stops-at (all_joined m room s.history) s t fault was fails
  fails-stands s t (AllLeave m room) fault fresh on was fails = stops-at (all_left m room s.history) s t fault was fails
  fails-stands s t (AllEnd m) fault fresh on was (inl (short, same)) = subst (StandsWith who) (sym same) was
  fails-stands s t (AllEnd m) fault fresh on was (inr fails) = stops-at (what.AllEnded (dismissed m s.history)) s t fault was fails

  -- and its client open
  pub stopped-open : (s t : Scene) (effect : Effect) (fault : CoreFault) → StandsWith who s → Stops who now s effect fault t → is_open t.history.base t.history.journal who.client ≡ true
  stopped-open s t effect fault was (fresh, inl (bad, is, same)) =
      rw same (was.open_client ∙ ap (λ (o : Option Cause). is_none o) fresh)
  stopped-open s t effect fault was (fresh, inr (fine, fails)) =
      let on = not-ended s.ended (is_wrong s.history.limits s.asked effect) fine in
      (fails-stands s t effect fault fresh on was fails).open_client ∙ ap (λ (o : Option Cause). is_none o) (same-closed effect fails ∙ fresh)
    where
      at-all : (u : Scene) → u.done.closed ≡ s.done.closed → t ≡ u → t.done.closed ≡ s.done.closed
      at-all u same is = ap (λ (v : Scene). v.done.closed) is ∙ same

      same-closed : (effect : Effect) → Fails who now s effect fault t → t.done.closed ≡ s.done.closed
      same-closed (Join room) fails = at-all s refl fails.1
      same-closed (Leave room) fails = at-all s refl fails.1
      same-closed (Emit e) fails = at-all s refl fails.1
      same-closed (Reply r) (id, asked, (same, why)) = at-all s refl same
      same-closed Report (id, asked, (same, why)) = at-all s refl same
      same-closed (Fetch m) (id, asked, (same, why)) = at-all s refl same
      same-closed (EmitAsk q) (same, why) = at-all (record s { line = t.line }) refl same
      same-closed Disconnect (inl (short, same)) = at-all s refl same
      same-closed Disconnect (inr (inl fails)) = at-all s refl fails.1
      same-closed Disconnect (inr (inr (between, says, fails))) = at-all (record s { history = between }) refl fails.1
      same-closed (AllJoin m room) fails = at-all s refl fails.1
      same-closed (AllLeave m room) fails = at-all s refl fails.1
      same-closed (AllEnd m) (inl (short, same)) = at-all s refl same
      same-closed (AllEnd m) (inr fails) = at-all s refl fails.1

-- ---- an effect in its turn

-- one that is allowed is done
module _ {X : Type 0} (who : Who) (now : ℕ) (s : Scene) (effect : Effect) (t : Scene) (fresh : s.done.closed ≡ None) (fine : is_bad s effect ≡ false) where
  pub in-turn : (r : Result X CoreFault) → OnOk r (Acts who now s effect t) → OnOk r (ActsInTurn who now s effect t)
  in-turn (Ok x) acts = subst (λ (o : Option Cause). elim o as (λ (o : Option Cause). Type 0) [ Some cause ↦ t ≡ s | None ↦ (is_bad s effect ≡ false) × Acts who now s effect t ]) (sym fresh) (fine, acts)
  in-turn (Err f) acts = tt

  -- or ends the event
  pub stops-in-turn : (r : Result X CoreFault) → IfErr r (λ f. Fails who now s effect f t) → IfErr r (λ f. Stops who now s effect f t)
  stops-in-turn (Ok x) fails = tt
  stops-in-turn (Err f) fails = (fresh, inr (fine, fails))

-- ---- where the effect can't be done

pub ended-is_bad : (s : Scene) (effect : Effect) → s.ended ≡ true → is_bad s effect ≡ true
ended-is_bad s effect ended = rw ended refl

pub wrong-is_bad : (s : Scene) (effect : Effect) → is_wrong s.history.limits s.asked effect ≡ true → is_bad s effect ≡ true
wrong-is_bad s effect wrong = on s.ended (is_wrong s.history.limits s.asked effect) wrong
  where
    on : (a b : Bool) → b ≡ true → (a || b) ≡ true
    on true b is = refl
    on false b is = is

pub bad-stops : (who : Who) (now : ℕ) (s : Scene) (effect : Effect) (closed : Bool) → closed ≡ is_some s.done.closed → closed ≡ false → is_bad s effect ≡ true → Stops who now s effect BadEffect s
bad-stops who now s effect closed is not-closed bad = (fresh s.done.closed (sym is ∙ not-closed), inl (bad, refl, refl))
  where
    fresh : (o : Option Cause) → is_some o ≡ false → o ≡ None
    fresh None none = refl
    fresh (Some cause) none = absurd (cc none)

-- ---- where the client isn't told the acknowledgement

module _ {X : Type 0} (who : Who) (id : ℕ) (r : reply.Reply) (now : ℕ) (h g k : History) (entry : Entry) (is : IsReply who.space id r entry) where
  -- its outbox has no space, and it is closed instead
  pub reply-closed : (old new : Tally) (told : Bool) (does : DoesOr hub.OutboxFull h now (told_to who.client entry) (Ok told) g) (full : told ≡ false) (result : Result X CoreFault)
      → OnOk result ((l : PlainLine) → Closes who.client now OutboxFull (scene g l old) (scene k l new)) → OnOk result ((l : PlainLine) → Replies who id r now (scene h l old) (scene k l new))
  reply-closed old new true does full (Ok x) closes = absurd (cc full)
  reply-closed old new false does full (Ok x) closes = λ l.
      (entry, is, inr (does.0, subst (λ (g : History). Closes who.client now OutboxFull (scene g l old) (scene k l new)) does.1 (closes l)))
  reply-closed old new told does full (Err f) closes = tt

  -- or isn't closed
  pub reply-fails : (old new : Tally) (told : Bool) (does : DoesOr hub.OutboxFull h now (told_to who.client entry) (Ok told) g) (full : told ≡ false) (result : Result X CoreFault)
      → IfErr result (λ f. StopsAt g now (what.Closed who.client) f) → OnErr result ((k ≡ g) × (new ≡ old)) → IfErr result (λ f. (l : PlainLine) → FailsToReply who id r now (scene h l old) f (scene k l new))
  reply-fails old new told does full (Ok x) stops same = tt
  reply-fails old new true does full (Err f) stops same = absurd (cc full)
  reply-fails old new false does full (Err f) stops same = λ l.
      (rw (same.0, same.1, does.1) refl, inr (entry, is, inr (does.0, subst (λ (g : History). StopsAt g now (what.Closed who.client) f) does.1 stops)))

-- or the hub can't tell it
pub reply-untold : (who : Who) (id : ℕ) (r : reply.Reply) (now : ℕ) (h g : History) (entry : Entry) → IsReply who.space id r entry → (old : Tally) (fault : CoreFault) → StopsAt h now (told_to who.client entry) fault × (g ≡ h)
    → (f : CoreFault) → f ≡ fault → (l : PlainLine) → FailsToReply who id r now (scene h l old) f (scene g l old)
reply-untold who id r now h g entry is old fault stops f is-it l = (rw stops.1 refl, inr (entry, is, inl (subst (λ (f : CoreFault). StopsAt h now (told_to who.client entry) f) (sym is-it) stops.0)))

-- ---- sockets that end

-- what was done of the event, where its receivers are pushed and it is counted
pub told-is : (old new : Tally) (d : PlainDone) (asked : Option ℕ) (refused : Option RoomError) (ended : Bool) (next : List (List ℕ)) (c : ℕ) (ids others : List ℕ) → ◌≡◌ {A = Tally} (record { done = d; asked = asked; refused = refused; ended = ended }) old
    → new ≡ record { done = one_more (record d { clients = next }); asked = asked; refused = refused; ended = ended } → next ≡ d.clients ++ others ∷ [] → others ≡ filter (λ d. not (d == c)) ids
    → new ≡ record old { done = told c ids (one_more old.done) }
told-is old new d asked refused ended next c ids others view counted pushed kept = counted ∙ rw (← view, pushed, kept) refl
