-- The app's effects after two histories that say the same.
use Rattle.std.proofs.Common.{◌≡◌, ℕ, true, false, List, [], ◌∷◌, refl, sym, ◌∙◌, ap, subst, take, Option, None, Some, Result, Ok, Err, inl, inr}
use Rattle.std.specs.Prelude.{is_some, ◌==◌, ◌&&◌, ◌||◌}
use Rattle.terms.specs.declared.entry.Entry.{Entry}
use Rattle.connection.specs.History.{Disconnected}
use Rattle.connection.specs.Line.{Advances}
use Rattle.journal.specs.declared.error.HubError.{HubError}
use Rattle.journal.specs.declared.error.HubError.TheVariants as hub
use Rattle.journal.specs.declared.socket.Socket.{Socket}
use Rattle.journal.specs.declared.step.What.{What}
use Rattle.journal.specs.declared.ending.Side.TheVariants as side
use Rattle.journal.specs.declared.step.What.TheVariants as what
use Rattle.journal.specs.Plain.{Limits, PlainDismissal}
use Rattle.journal.specs.Journal.{History, moment_at, with_step}
use Rattle.journal.specs.Legal.{IsRight}
use Rattle.journal.specs.ManySockets.{joining, leaving, dismissal}
use Rattle.journal.specs.Membership.{is_space, place_of}
use Rattle.events.specs.declared.app.Effect.{Effect}
use Rattle.events.specs.declared.app.Effect.TheVariants.{Join, Leave, Emit, EmitAsk, Reply, Report, Fetch, Disconnect, AllJoin, AllLeave, AllEnd}
use Rattle.events.specs.declared.app.Inquiry as inquiry
use Rattle.events.specs.declared.app.Reply as reply
use Rattle.events.specs.declared.app.Who.{Who}
use Rattle.events.specs.declared.cause.Cause.{Cause}
use Rattle.events.specs.declared.fault.CoreFault.{CoreFault}
use Rattle.events.specs.declared.fault.Stopped.{Stopped}
use Rattle.journal.specs.Plain.{PlainCast}
use Rattle.events.specs.Selection.{PlainSelection}
use Rattle.hub_state.specs.Words.{selected}
use Rattle.dispatch.specs.Answering.{report_text, list_text}
use Rattle.dispatch.specs.Commands.{Makes, IsRefused, StopsAt, IsSeated}
use Rattle.dispatch.specs.Effects.{Scene, Closes, ChangesRooms, Emits, told_to, Replies, Says, listed, Asks, goodbye, SaysGoodbye, Disconnects, all_joined, all_left, dismissed, is_among, EndsAll, Acts, ActsInTurn, is_bad, is_wrong, FailsToTell, FailsAt, FailsToEmit, FailsToReply, FailsToSay, FailsToDisconnect, FailsToEndAll, FailsToAsk, Fails, Stops, StopsAfter}
use Rattle.events.specs.Plain.{one_more, told}
use Rattle.dispatch.specs.Runs.{Runs, RunsOrFails}
use Rattle.dispatch.specs.Broadcasting.{work}
use Rattle.epochs.specs.Epochs.{AreAlike}
use Rattle.epochs.proofs.EpochSteps.{refusal-alike, Grown, grown-none, grown-on, grown-step, StaysSound}
use Rattle.epochs.proofs.EpochCasts.{says-alike, cannot-say}
use Rattle.epochs.proofs.EpochLists.{any-alike, joining-alike, leaving-alike, selected-alike, dismissal-alike, joining-right, leaving-right, dismissal-right}

-- the scene with another history
abbrev pub moved : Scene → History → Scene
moved s g = record s { history = g }

-- what leads from the one scene to the other leads so from the first with another history too
abbrev pub Sim : (Scene → Scene → Type 0) → Scene → Scene → History → Type 0
Sim R s t g = (m : History) × Grown s.history t.history g m × R (moved s g) (moved t m)

-- ---- commands

module _ (keeps : StaysSound) (now : ℕ) where
  pub make-alike : (h g k : History) → AreAlike h g → (w : What) → IsRight h.base h.limits h.journal (record { at = moment_at h now; what = w }) w → Makes h now w k
      → Grown h k g (with_step g now w) × Makes g now w (with_step g now w)
  make-alike h g k alike w right (free, is) = (grown-step keeps h g k alike now w (free, right) is, (refusal-alike h g alike now w ∙ free, refl))

  pub refused-alike : (h g : History) → AreAlike h g → (w : What) (e : HubError) → IsRefused h now w e → IsRefused g now w e
  refused-alike h g alike w e refused = refusal-alike h g alike now w ∙ refused

  pub stops-alike : (h g : History) → AreAlike h g → (w : What) (fault : CoreFault) → StopsAt h now w fault → StopsAt g now w fault
  stops-alike h g alike w fault (inl short) = inl short
  stops-alike h g alike w fault (inr (e, refused, ends, is)) = inr (e, refused-alike h g alike w e refused, ends, is)

  -- ---- each effect

  pub closes-alike : (c : ℕ) (why : Cause) (s t : Scene) (g : History) → AreAlike s.history g → Closes c now why s t → Sim (Closes c now why) s t g
  closes-alike c why s t g alike (makes, is) =
      let both = make-alike s.history g t.history alike (what.Closed c) tt makes in
      let m = with_step g now (what.Closed c) in
      (m, both.0, (both.1, ap (λ (u : Scene). moved u m) is))

  changes-alike : (w w' : What) → w' ≡ w → (s t : Scene) (g : History) → AreAlike s.history g → IsRight s.history.base s.history.limits s.history.journal (record { at = moment_at s.history now; what = w }) w
      → ChangesRooms w now s t → Sim (ChangesRooms w' now) s t g
  changes-alike w w' same s t g alike right (inl (makes, is)) =
      let both = make-alike s.history g t.history alike w right makes in
      let m = with_step g now w in
      (m, both.0, inl (subst (λ (v : What). Makes g now v m) (sym same) both.1, ap (λ (u : Scene). moved u m) is))
  changes-alike w w' same s t g alike right (inr (e, refused, is)) = (
    g,
    grown-none s.history t.history g alike (ap (λ (u : Scene). u.history) is),
    inr (e, subst (λ (v : What). IsRefused g now v (hub.RoomRefused e)) (sym same) (refused-alike s.history g alike w (hub.RoomRefused e) refused), ap (λ (u : Scene). moved u g) is),
  )

  emits-alike : (who : Who) (e : PlainCast) (s t : Scene) (g : History) → AreAlike s.history g → Emits who e now s t → Sim (Emits who e now) s t g
  emits-alike who e s t g alike (says, is) =
      let (m, grown, also) = says-alike keeps who.client e now (work s.history s.done) (work t.history t.done) g alike says in
      (m, grown, (also, ap (λ (u : Scene). moved u m) is))

  replies-alike : (who : Who) (id : ℕ) (r : reply.Reply) (s t : Scene) (g : History) → AreAlike s.history g → Replies who id r now s t → Sim (Replies who id r now) s t g
  replies-alike who id r s t g alike (entry, reads, inl (makes, is)) =
      let both = make-alike s.history g t.history alike (told_to who.client entry) tt makes in
      let m = with_step g now (told_to who.client entry) in
      (m, both.0, (entry, reads, inl (both.1, ap (λ (u : Scene). moved u m) is)))
  replies-alike who id r s t g alike (entry, reads, inr (refused, closes)) =
      let (m, grown, does) = closes-alike who.client _ s t g alike closes in
      (m, grown, (entry, reads, inr (refused-alike s.history g alike (told_to who.client entry) hub.OutboxFull refused, does)))

  asks-alike : (who : Who) (q : inquiry.Inquiry) (s t : Scene) (g : History) → AreAlike s.history g → Asks who q now s t → Sim (Asks who q now) s t g
  asks-alike who q s t g alike (id, next, entry, reads, inl (makes, advances, is)) =
      let both = make-alike s.history g t.history alike (told_to who.client entry) tt makes in
      let m = with_step g now (told_to who.client entry) in
      (m, both.0, (id, next, entry, reads, inl (both.1, advances, ap (λ (u : Scene). moved u m) is)))
  asks-alike who q s t g alike (id, next, entry, reads, inr (refused, advances, closes)) =
      let (m, grown, does) = closes-alike who.client _ (record s { line = t.line }) t g alike closes in
      (m, grown, (id, next, entry, reads, inr (refused-alike s.history g alike (told_to who.client entry) hub.OutboxFull refused, advances, does)))

  goodbye-alike : (who : Who) (h g k : History) → AreAlike h g → SaysGoodbye who now h k → (m : History) × Grown h k g m × SaysGoodbye who now g m
  goodbye-alike who h g k alike (inl makes) = let both = make-alike h g k alike (goodbye who) tt makes in (with_step g now (goodbye who), both.0, inl both.1)
  goodbye-alike who h g k alike (inr (refused, is)) = (g, grown-none h k g alike is, inr (refused-alike h g alike (goodbye who) hub.OutboxFull refused, refl))

  disconnects-alike : (who : Who) (s t : Scene) (g : History) → AreAlike s.history g → Disconnects who now s t → Sim (Disconnects who now) s t g
  disconnects-alike who s t g alike (between, says, makes, advances, is) =
      let (m, grown, said) = goodbye-alike who s.history g between alike says in
      let both = make-alike between m t.history grown.alike (what.Ended who.sid side.Server) tt makes in
      let n = with_step m now (what.Ended who.sid side.Server) in
      (n, grown-on s.history between t.history g m n grown both.0, (m, said, both.1, advances, ap (λ (u : Scene). moved u n) is))

  -- ---- of many sockets

  all_joined-alike : (p : PlainSelection) (room : List ℕ) (h g : History) → AreAlike h g → all_joined p room g ≡ all_joined p room h
  all_joined-alike p room h g alike =
      ap what.AllJoined (joining-alike h g alike (place_of g.limits p.space) p.rooms p.excepted room)
      ∙ ap (λ (l : Limits). what.AllJoined (joining h (place_of l p.space) p.rooms p.excepted room)) alike.same.same_limits

  all_left-alike : (p : PlainSelection) (room : List ℕ) (h g : History) → AreAlike h g → all_left p room g ≡ all_left p room h
  all_left-alike p room h g alike =
      ap what.AllLeft (leaving-alike h g alike (place_of g.limits p.space) p.rooms p.excepted room)
      ∙ ap (λ (l : Limits). what.AllLeft (leaving h (place_of l p.space) p.rooms p.excepted room)) alike.same.same_limits

  dismissed-alike : (p : PlainSelection) (h g : History) → AreAlike h g → dismissed p g ≡ dismissed p h
  dismissed-alike p h g alike =
      dismissal-alike h g alike (place_of g.limits p.space) p.rooms p.excepted
      ∙ ap (λ (l : Limits). dismissal h (place_of l p.space) p.rooms p.excepted) alike.same.same_limits

  -- the sockets of this dismissal end
  abbrev EndsThose : Who → PlainDismissal → Scene → Scene → Type 0
  EndsThose who d s t =
      Makes s.history now (what.AllEnded d) t.history
      × (t ≡ record s { history = t.history; line = t.line; done = told who.client d.told (one_more s.done); ended = is_among who.sid d.ended })
      × elim (is_among who.sid d.ended) [ true ↦ Advances s.line (Disconnected who.sid ∷ []) t.line | false ↦ t.line ≡ s.line ]

  ends_all-alike : (who : Who) (p : PlainSelection) (s t : Scene) (g : History) → AreAlike s.history g → EndsAll who p now s t → Sim (EndsAll who p now) s t g
  ends_all-alike who p s t g alike (makes, is, lines) =
      let d = dismissed p s.history in
      let both = make-alike s.history g t.history alike (what.AllEnded d) (dismissal-right s.history (place_of s.history.limits p.space) p.rooms p.excepted) makes in
      let m = with_step g now (what.AllEnded d) in
      (m, both.0, subst (λ (e : PlainDismissal). EndsThose who e (moved s g) (moved t m)) (sym (dismissed-alike p s.history g alike)) (both.1, ap (λ (u : Scene). moved u m) is, lines))

  listed-alike : (p : PlainSelection) (h g : History) → AreAlike h g → listed p g ≡ listed p h
  listed-alike p h g alike =
      ap (λ (l : Limits). list_text (selected g (place_of l p.space) p.rooms p.excepted)) alike.same.same_limits
      ∙ ap list_text (selected-alike h g alike (place_of h.limits p.space) p.rooms p.excepted)

  says-back : (who : Who) (text other : List ℕ) → other ≡ text → (s t : Scene) (g : History) → AreAlike s.history g → Says who text now s t
      → (m : History) × Grown s.history t.history g m × Says who other now (moved s g) (moved t m)
  says-back who text other is s t g alike (id, asked, does) =
      let (m, grown, also) = replies-alike who id (record { payload = text; attachments = [] }) s t g alike does in
      (m, grown, subst (λ (x : List ℕ). Says who x now (moved s g) (moved t m)) (sym is) (id, asked, also))

  acts-alike : (who : Who) (effect : Effect) (s t : Scene) (g : History) → AreAlike s.history g → Acts who now s effect t → Sim (λ a b. Acts who now a effect b) s t g
  acts-alike who (Join room) s t g alike does = changes-alike _ _ refl s t g alike tt does
  acts-alike who (Leave room) s t g alike does = changes-alike _ _ refl s t g alike tt does
  acts-alike who (Emit e) s t g alike does = emits-alike who e s t g alike does
  acts-alike who (Reply r) s t g alike (id, asked, does) = let (m, grown, also) = replies-alike who id r s t g alike does in (m, grown, (id, asked, also))
  acts-alike who Report s t g alike does = says-back who (report_text s.refused) (report_text s.refused) refl s t g alike does
  acts-alike who (Fetch p) s t g alike does = says-back who (listed p s.history) (listed p g) (listed-alike p s.history g alike) s t g alike does
  acts-alike who (EmitAsk q) s t g alike does = asks-alike who q s t g alike does
  acts-alike who Disconnect s t g alike does = disconnects-alike who s t g alike does
  acts-alike who (AllJoin p room) s t g alike does =
      changes-alike (all_joined p room s.history) (all_joined p room g) (all_joined-alike p room s.history g alike) s t g alike (joining-right s.history (place_of s.history.limits p.space) p.rooms p.excepted room) does
  acts-alike who (AllLeave p room) s t g alike does =
      changes-alike (all_left p room s.history) (all_left p room g) (all_left-alike p room s.history g alike) s t g alike (leaving-right s.history (place_of s.history.limits p.space) p.rooms p.excepted room) does
  acts-alike who (AllEnd p) s t g alike does = ends_all-alike who p s t g alike does

  -- an effect is as bad in both
  bad-alike : (effect : Effect) (s : Scene) (g : History) → AreAlike s.history g → is_bad (moved s g) effect ≡ is_bad s effect
  bad-alike effect s g alike = ap (λ (l : Limits). s.ended || is_wrong l s.asked effect) alike.same.same_limits

  pub turn-alike : (who : Who) (effect : Effect) (s t : Scene) (g : History) → AreAlike s.history g → ActsInTurn who now s effect t → Sim (λ a b. ActsInTurn who now a effect b) s t g
  turn-alike who effect s t g alike does = on s.done.closed does
    where
      on : (o : Option Cause) → elim o as (λ (o : Option Cause). Type 0) [ Some cause ↦ t ≡ s | None ↦ (is_bad s effect ≡ false) × Acts who now s effect t ]
          → (m : History) × Grown s.history t.history g m × elim o as (λ (o : Option Cause). Type 0) [ Some cause ↦ moved t m ≡ moved s g | None ↦ (is_bad (moved s g) effect ≡ false) × Acts who now (moved s g) effect (moved t m) ]
      on (Some cause) is = (g, grown-none s.history t.history g alike (ap (λ (u : Scene). u.history) is), ap (λ (u : Scene). moved u g) is)
      on None (fine, acts) = let (m, grown, also) = acts-alike who effect s t g alike acts in (m, grown, (bad-alike effect s g alike ∙ fine, also))

  -- ---- where the effects stop

  -- the event ends so in both
  abbrev pub Ends : (Scene → CoreFault → Scene → Type 0) → Scene → CoreFault → Scene → History → Type 0
  Ends R s fault t g = Sim (λ a b. R a fault b) s t g

  fails-at : (w w' : What) → w' ≡ w → (s : Scene) (fault : CoreFault) (t : Scene) (g : History) → AreAlike s.history g → FailsAt w now s fault t → Ends (FailsAt w' now) s fault t g
  fails-at w w' same s fault t g alike (stops, is) = (
    g,
    grown-none s.history t.history g alike (ap (λ (u : Scene). u.history) is),
    (subst (λ (v : What). StopsAt g now v fault) (sym same) (stops-alike s.history g alike w fault stops), ap (λ (u : Scene). moved u g) is),
  )

  fails-to-tell : (who : Who) (h g : History) → AreAlike h g → (entry : Entry) (fault : CoreFault) → FailsToTell who now h entry fault → FailsToTell who now g entry fault
  fails-to-tell who h g alike entry fault (inl stops) = inl (stops-alike h g alike (told_to who.client entry) fault stops)
  fails-to-tell who h g alike entry fault (inr (refused, stops)) =
      inr (refused-alike h g alike (told_to who.client entry) hub.OutboxFull refused, stops-alike h g alike (what.Closed who.client) fault stops)

  fails-to-emit : (e : PlainCast) (s : Scene) (fault : CoreFault) (t : Scene) (g : History) → AreAlike s.history g → FailsToEmit e s fault t → Ends (FailsToEmit e) s fault t g
  fails-to-emit e s fault t g alike (cannot, is) =
      (g, grown-none s.history t.history g alike (ap (λ (u : Scene). u.history) is), (cannot-say e s.history g alike fault cannot, ap (λ (u : Scene). moved u g) is))

  fails-to-reply : (who : Who) (id : ℕ) (r : reply.Reply) (s : Scene) (fault : CoreFault) (t : Scene) (g : History) → AreAlike s.history g → FailsToReply who id r now s fault t → Ends (FailsToReply who id r now) s fault t g
  fails-to-reply who id r s fault t g alike (is, inl short) = (g, grown-none s.history t.history g alike (ap (λ (u : Scene). u.history) is), (ap (λ (u : Scene). moved u g) is, inl short))
  fails-to-reply who id r s fault t g alike (is, inr (entry, reads, fails)) =
      (g, grown-none s.history t.history g alike (ap (λ (u : Scene). u.history) is), (ap (λ (u : Scene). moved u g) is, inr (entry, reads, fails-to-tell who s.history g alike entry fault fails)))

  fails-to-say : (who : Who) (text other : List ℕ) → other ≡ text → (s : Scene) (fault : CoreFault) (t : Scene) (g : History) → AreAlike s.history g → FailsToSay who text now s fault t
      → (m : History) × Grown s.history t.history g m × FailsToSay who other now (moved s g) fault (moved t m)
  fails-to-say who text other is s fault t g alike (id, asked, does) =
      let (m, grown, also) = fails-to-reply who id (record { payload = text; attachments = [] }) s fault t g alike does in
      (m, grown, subst (λ (x : List ℕ). FailsToSay who x now (moved s g) fault (moved t m)) (sym is) (id, asked, also))

  fails-to-disconnect : (who : Who) (s : Scene) (fault : CoreFault) (t : Scene) (g : History) → AreAlike s.history g → FailsToDisconnect who now s fault t → Ends (FailsToDisconnect who now) s fault t g
  fails-to-disconnect who s fault t g alike (inl (short, is)) = (g, grown-none s.history t.history g alike (ap (λ (u : Scene). u.history) is), inl (short, ap (λ (u : Scene). moved u g) is))
  fails-to-disconnect who s fault t g alike (inr (inl fails)) = let (m, grown, also) = fails-at (goodbye who) (goodbye who) refl s fault t g alike fails in (m, grown, inr (inl also))
  fails-to-disconnect who s fault t g alike (inr (inr (between, says, (stops, is)))) =
      let (m, grown, said) = goodbye-alike who s.history g between alike says in
      let there = grown-none between t.history m grown.alike (ap (λ (u : Scene). u.history) is) in
      (m, grown-on s.history between t.history g m m grown there, inr (inr (m, said, (stops-alike between m grown.alike (what.Ended who.sid side.Server) fault stops, ap (λ (u : Scene). moved u m) is))))

  fails-to-end-all : (p : PlainSelection) (s : Scene) (fault : CoreFault) (t : Scene) (g : History) → AreAlike s.history g → FailsToEndAll p now s fault t → Ends (FailsToEndAll p now) s fault t g
  fails-to-end-all p s fault t g alike (inl (short, is)) = (g, grown-none s.history t.history g alike (ap (λ (u : Scene). u.history) is), inl (short, ap (λ (u : Scene). moved u g) is))
  fails-to-end-all p s fault t g alike (inr fails) =
      let (m, grown, also) = fails-at (what.AllEnded (dismissed p s.history)) (what.AllEnded (dismissed p g)) (ap what.AllEnded (dismissed-alike p s.history g alike)) s fault t g alike fails in (m, grown, inr also)

  fails-to-ask : (who : Who) (q : inquiry.Inquiry) (s : Scene) (fault : CoreFault) (t : Scene) (g : History) → AreAlike s.history g → FailsToAsk who q now s fault t → Ends (FailsToAsk who q now) s fault t g
  fails-to-ask who q s fault t g alike (is, inl none) = (g, grown-none s.history t.history g alike (ap (λ (u : Scene). u.history) is), (ap (λ (u : Scene). moved u g) is, inl none))
  fails-to-ask who q s fault t g alike (is, inr (id, next, advances, inl short)) =
      (g, grown-none s.history t.history g alike (ap (λ (u : Scene). u.history) is), (ap (λ (u : Scene). moved u g) is, inr (id, next, advances, inl short)))
  fails-to-ask who q s fault t g alike (is, inr (id, next, advances, inr (entry, reads, fails))) = (
    g,
    grown-none s.history t.history g alike (ap (λ (u : Scene). u.history) is),
    (ap (λ (u : Scene). moved u g) is, inr (id, next, advances, inr (entry, reads, fails-to-tell who s.history g alike entry fault fails))),
  )

  fails-alike : (who : Who) (effect : Effect) (s : Scene) (fault : CoreFault) (t : Scene) (g : History) → AreAlike s.history g → Fails who now s effect fault t → Ends (λ a f b. Fails who now a effect f b) s fault t g
  fails-alike who (Join room) s fault t g alike does = fails-at (what.Joined who.sid room) (what.Joined who.sid room) refl s fault t g alike does
  fails-alike who (Leave room) s fault t g alike does = fails-at (what.Left who.sid room) (what.Left who.sid room) refl s fault t g alike does
  fails-alike who (Emit e) s fault t g alike does = fails-to-emit e s fault t g alike does
  fails-alike who (Reply r) s fault t g alike (id, asked, does) = let (m, grown, also) = fails-to-reply who id r s fault t g alike does in (m, grown, (id, asked, also))
  fails-alike who Report s fault t g alike does = fails-to-say who (report_text s.refused) (report_text s.refused) refl s fault t g alike does
  fails-alike who (Fetch p) s fault t g alike does = fails-to-say who (listed p s.history) (listed p g) (listed-alike p s.history g alike) s fault t g alike does
  fails-alike who (EmitAsk q) s fault t g alike does = fails-to-ask who q s fault t g alike does
  fails-alike who Disconnect s fault t g alike does = fails-to-disconnect who s fault t g alike does
  fails-alike who (AllJoin p room) s fault t g alike does = fails-at (all_joined p room s.history) (all_joined p room g) (all_joined-alike p room s.history g alike) s fault t g alike does
  fails-alike who (AllLeave p room) s fault t g alike does = fails-at (all_left p room s.history) (all_left p room g) (all_left-alike p room s.history g alike) s fault t g alike does
  fails-alike who (AllEnd p) s fault t g alike does = fails-to-end-all p s fault t g alike does

  stop-alike : (who : Who) (effect : Effect) (s : Scene) (fault : CoreFault) (t : Scene) (g : History) → AreAlike s.history g → Stops who now s effect fault t → Ends (λ a f b. Stops who now a effect f b) s fault t g
  stop-alike who effect s fault t g alike (fresh, inl (bad, is, same)) = (g, grown-none s.history t.history g alike (ap (λ (u : Scene). u.history) same), (fresh, inl (bad-alike effect s g alike ∙ bad, is, ap (λ (u : Scene). moved u g) same)))
  stop-alike who effect s fault t g alike (fresh, inr (fine, fails)) = let (m, grown, also) = fails-alike who effect s fault t g alike fails in (m, grown, (fresh, inr (bad-alike effect s g alike ∙ fine, also)))

-- ---- runs

-- a run that each step of goes so after another history
pub runs-alike : {S A : Type 0} (history_of : S → History) (put : S → History → S) (R : S → A → S → Type 0)
    → ((s : S) (x : A) (t : S) (g : History) → AreAlike (history_of s) g → R s x t → (m : History) × Grown (history_of s) (history_of t) g m × R (put s g) x (put t m))
    → (xs : List A) (s t : S) (g : History) → AreAlike (history_of s) g → Runs R xs s t → (m : History) × Grown (history_of s) (history_of t) g m × Runs R xs (put s g) (put t m)
unfolding Runs
runs-alike history_of put R each [] s t g alike is = (g, grown-none (history_of s) (history_of t) g alike (ap history_of is), ap (λ u. put u g) is)
runs-alike history_of put R each (x ∷ xs) s t g alike (u, does, run) =
    let (m, grown, also) = each s x u g alike does in
    let (n, further, rest) = runs-alike history_of put R each xs u t m grown.alike run in
    (n, grown-on (history_of s) (history_of u) (history_of t) g m n grown further, (put u m, also, rest))

-- also one that may fail
pub runs-or-fails-alike : {S A E : Type 0} (history_of : S → History) (put : S → History → S) (R : S → A → Result (Unit {0}) E → S → Type 0)
    → ((s : S) (x : A) (r : Result (Unit {0}) E) (t : S) (g : History) → AreAlike (history_of s) g → R s x r t → (m : History) × Grown (history_of s) (history_of t) g m × R (put s g) x r (put t m))
    → (xs : List A) (s : S) (r : Result (Unit {0}) E) (t : S) (g : History) → AreAlike (history_of s) g → RunsOrFails R xs s r t
    → (m : History) × Grown (history_of s) (history_of t) g m × RunsOrFails R xs (put s g) r (put t m)
runs-or-fails-alike history_of put R each xs s (Ok x) t g alike run =
    runs-alike history_of put (λ a y b. R a y (Ok tt) b) (λ a y b k same does. each a y (Ok tt) b k same does) xs s t g alike run
runs-or-fails-alike history_of put R each xs s (Err e) t g alike (done, (at, run, x, there, fails)) =
    let (m, grown, also) = runs-alike history_of put (λ a y b. R a y (Ok tt) b) (λ a y b k same does. each a y (Ok tt) b k same does) (take done xs) s at g alike run in
    let (n, further, ends) = each at x (Err e) t m grown.alike fails in
    (n, grown-on (history_of s) (history_of at) (history_of t) g m n grown further, (done, (put at m, also, x, there, ends)))

module _ (keeps : StaysSound) (now : ℕ) where
  pub effects-alike : (who : Who) (effects : List Effect) (s t : Scene) (g : History) → AreAlike s.history g → Runs (ActsInTurn who now) effects s t → Sim (Runs (ActsInTurn who now) effects) s t g
  effects-alike who effects s t g alike run =
      runs-alike (λ (u : Scene). u.history) moved (ActsInTurn who now) (λ a effect b k same does. turn-alike keeps now who effect a b k same does) effects s t g alike run

  pub stopped-alike : (who : Who) (before : ℕ) (effects : List Effect) (s : Scene) (stopped : Stopped) (t : Scene) (g : History) → AreAlike s.history g → StopsAfter who now before effects s stopped t
      → Sim (λ a b. StopsAfter who now before effects a stopped b) s t g
  stopped-alike who before effects s stopped t g alike (done, number, (at, run, effect, there, stops)) =
      let (m, grown, also) = effects-alike who (take done effects) s at g alike run in
      let (n, further, ends) = stop-alike keeps now who effect at stopped.fault t m grown.alike stops in
      (n, grown-on s.history at.history t.history g m n grown further, (done, number, (moved at m, also, effect, there, ends)))

  -- ---- a seat

  pub seated-alike : (who : Who) (h g : History) → AreAlike h g → IsSeated who h → IsSeated who g
  seated-alike who h g alike seated = record {
    open_client = alike.same.same_open who.client ∙ seated.open_client;
    connected = ap (λ (o : Option Socket). is_some o) (alike.same.same_by_sid who.sid) ∙ seated.connected;
    own = any-alike h g alike (λ k. k.sid == who.sid && k.client == who.client) (λ k. k.sid == who.sid && k.client == who.client) (λ k known. refl) ∙ seated.own;
    in_space = ap (λ (l : Limits). is_space l (place_of l who.space)) alike.same.same_limits ∙ seated.in_space;
  }
