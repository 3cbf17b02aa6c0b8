-- What an event does after two histories that say the same.
use Rattle.std.proofs.Common.{subst, ◌≡◌, ℕ, ◌+◌, Bool, true, false, List, [], ◌∷◌, refl, sym, ◌∙◌, ap, length, Option, None, Some, Ok, Err, inl, inr}
use Rattle.eio_wire.specs.declared.packet.Packet.{Packet}
use Rattle.connection.specs.declared.clock.Due.{Due}
use Rattle.connection.specs.declared.clock.Due.TheVariants as due
use Rattle.connection.specs.declared.clock.Transport.{Transport}
use Rattle.connection.specs.declared.clock.Transport.TheVariants.{Polling, Probing, Socket}
use Rattle.connection.specs.History.{Call, Upgraded, ProbeLost}
use Rattle.connection.specs.Line.{PlainLine}
use Rattle.recovery.specs.PacketLog.{PlainLogged}
use Rattle.recovery.specs.SavedTable.{PlainSaved}
use Rattle.journal.specs.declared.answers.Swept.{Swept}
use Rattle.journal.specs.declared.error.HubError.TheVariants as hub
use Rattle.journal.specs.declared.step.What.TheVariants as what
use Rattle.journal.specs.Journal.{History, with_step}
use Rattle.journal.specs.Membership.{is_open}
use Rattle.hub_state.specs.EndedSockets.{PlainEnded}
use Rattle.events.specs.declared.cause.Cause.{Cause}
use Rattle.events.specs.declared.cause.Cause.TheVariants as cause
use Rattle.events.specs.declared.fault.CoreFault.{CoreFault}
use Rattle.events.specs.declared.fault.CoreFault.TheVariants.{Memory, UnknownClient}
use Rattle.events.specs.App.{Policy}
use Rattle.hub_totals.specs.Pass.{Drops}
use Rattle.dispatch.specs.Hearing.{ended_since}
use Rattle.events.specs.declared.event.Event.{Event}
use Rattle.events.specs.declared.event.Event.TheVariants as event
use Rattle.events.specs.declared.event.WsFrame.{WsFrame}
use Rattle.events.specs.declared.outcome.Outcome.TheVariants as outcome
use Rattle.events.specs.Answer.{Answer}
use Rattle.events.specs.Event.{client_of}
use Rattle.dispatch.specs.Scene.{visit_at}
use Rattle.dispatch.specs.declared.clients.Handshake.{Handshake}
use Rattle.dispatch.specs.Answers.{Refused, AdvancesLine, ClosesUnread, ForClient}
use Rattle.epochs.specs.Epochs.{AreAlike}
use Rattle.dispatch.specs.Frames.{is_too_long, SendsFor}
use Rattle.dispatch.specs.Takes.{TakesFor}
use Rattle.dispatch.specs.Hearing.{HearsAfter}
use Rattle.dispatch.specs.Machine.{Opens, Begins, Ends, Takes, TakesFrames, Loses, opening, WorksOn, Posts, PostsFor, ReadsFrame, ReceivesOne, Receives, ReceivesFor, Row, Does}
use Rattle.dispatch.specs.Packets.{course}
use Rattle.dispatch.specs.Holding.{Holding, HasLine, with_ids}
use Rattle.dispatch.specs.Upgrade.{Probes, ProbesOn, EndsProbe, EndsProbeOn}
use Rattle.dispatch.specs.Upkeep.{Ticks, TicksOn, Sweeps}
use Rattle.epochs.proofs.EpochSteps.{Grown, grown-none, grown-on, ended-alike, StaysSound}
use Rattle.epochs.proofs.EpochEffects.{make-alike, refused-alike, stops-alike}
use Rattle.epochs.proofs.EpochHearing.{after-alike}
use Rattle.epochs.proofs.EpochPackets.{parks-or-closes, fails-to-park, packets-alike, breaks-alike}
use Rattle.epochs.proofs.EpochTakes.{SimBoth, takes-for, sends-for}

-- what a core holds, with another history
abbrev pub put : Holding → History → Holding
put s g = record s { history = g }

-- what leads from what one core holds to what another does leads so from the first with another history too
abbrev pub SimHolding : (Holding → Holding → Type 0) → Holding → Holding → History → Type 0
SimHolding R s t g = (m : History) × Grown s.history t.history g m × R (put s g) (put t m)

-- a line stands for open clients alone
abbrev pub OfOpen : Holding → Type 0
OfOpen s = (c : ℕ) (line : PlainLine) → s.lines c ≡ Some line → is_open s.history.base s.history.journal c ≡ true

drops-alike : (dropped : Swept) (h k g m : History) → AreAlike h g → AreAlike k m → Drops dropped h k → Drops dropped g m
drops-alike dropped h k g m first later drops = (
  ap (λ (l : List PlainLogged). length l) first.same.same_log ∙ drops.0 ∙ sym (ap (λ (l : List PlainLogged). length l + dropped.log) later.same.same_log),
  ap (λ (l : List PlainSaved). length l) first.same.same_sessions ∙ drops.1 ∙ sym (ap (λ (l : List PlainSaved). length l + dropped.saved) later.same.same_sessions),
)

module _ (keeps : StaysSound) (now : ℕ) (s t : Holding) (g : History) (alike : AreAlike s.history g) (answer : Answer) where
  still : t.history ≡ s.history → Grown s.history t.history g g
  still is = grown-none s.history t.history g alike is

  refused : (fault : CoreFault) → Refused fault s answer t → SimHolding (λ a b. Refused fault a answer b) s t g
  refused fault (is, same, lines) = (g, still same, (is, refl, lines))

  advanced : (c : ℕ) (line : PlainLine) (calls : List Call) → AdvancesLine c line calls s t → SimHolding (AdvancesLine c line calls) s t g
  advanced c line calls (same, has) = (g, still same, (refl, has))

  -- by the client's line
  for-client : (c : ℕ) (row : PlainLine → Holding → Answer → Holding → Type 0)
      → ((line : PlainLine) → s.lines c ≡ Some line → row line s answer t → SimHolding (λ a b. row line a answer b) s t g)
      → ForClient c row s answer t → SimHolding (λ a b. ForClient c row a answer b) s t g
  for-client c row each does = on (s.lines c) refl does
    where
      on : (o : Option PlainLine) → s.lines c ≡ o → elim o as (λ (o : Option PlainLine). Type 0) [ None ↦ Refused UnknownClient s answer t | Some line ↦ row line s answer t ]
          → (m : History) × Grown s.history t.history g m × elim o as (λ (o : Option PlainLine). Type 0) [ None ↦ Refused UnknownClient (put s g) answer (put t m) | Some line ↦ row line (put s g) answer (put t m) ]
      on None none is = refused UnknownClient is
      on (Some line) is does = each line is does

  -- a client that has such a line, of what this says of the histories
  has-line : (c : ℕ) (P : PlainLine → History → History → Type 0) → ((line : PlainLine) → P line s.history t.history → SimBoth (P line) s.history t.history g)
      → HasLine c (λ line. P line s.history t.history) s t → (m : History) × Grown s.history t.history g m × HasLine c (λ line. P line g m) (put s g) (put t m)
  has-line c P each (has, others) = let (m, grown, also) = on (t.lines c) has in (m, grown, (also, others))
    where
      on : (o : Option PlainLine) → elim o as (λ (o : Option PlainLine). Type 0) [ None ↦ ⊥ | Some line ↦ P line s.history t.history ]
          → (m : History) × Grown s.history t.history g m × elim o as (λ (o : Option PlainLine). Type 0) [ None ↦ ⊥ | Some line ↦ P line g m ]
      on None none = absurd none
      on (Some line) does = each line does

module _ (keeps : StaysSound) (now : ℕ) (s t : Holding) (g : History) (alike : AreAlike s.history g) where
  closes-unread : (c : ℕ) (why : Cause) (answer : Answer) → ClosesUnread why (visit_at c now) s answer t → SimHolding (λ a b. ClosesUnread why (visit_at c now) a answer b) s t g
  closes-unread c why (Ok (outcome.Done done)) (is, makes, lost) =
      let both = make-alike keeps now s.history g t.history alike (what.Closed c) tt makes in (with_step g now (what.Closed c), both.0, (is, both.1, lost))
  closes-unread c why (Ok _) none = absurd none
  closes-unread c why (Err e) (stops, (is, same, lines)) =
      (g, grown-none s.history t.history g alike same, (stops-alike keeps now s.history g alike (what.Closed c) e.fault stops, (is, refl, lines)))

  opens-alike : (told : Handshake) (socket : Bool) (c : ℕ) (answer : Answer) → Opens told socket (visit_at c now) s answer t → SimHolding (λ a b. Opens told socket (visit_at c now) a answer b) s t g
  opens-alike told socket c (Ok (outcome.Opened o)) (client, said, makes, has) =
      let both = make-alike keeps now s.history g t.history alike (what.Opened c) tt makes in (with_step g now (what.Opened c), both.0, (client, said, both.1, has))
  opens-alike told socket c (Ok _) none = absurd none
  opens-alike told socket c (Err e) (stops, (is, same, lines)) =
      (g, grown-none s.history t.history g alike same, (stops-alike keeps now s.history g alike (what.Opened c) e.fault stops, (is, refl, lines)))

  begins-alike : (c : ℕ) (answer : Answer) (line : PlainLine) → Begins (visit_at c now) line s answer t → SimHolding (λ a b. Begins (visit_at c now) line a answer b) s t g
  begins-alike c answer line (inl (on, refusal)) = let (m, grown, also) = refused keeps now s t g alike answer _ refusal in (m, grown, inl (on, also))
  begins-alike c answer line (inr (inl (polls, getting, closes))) = let (m, grown, also) = closes-unread c cause.DoubleGet answer closes in (m, grown, inr (inl (polls, getting, also)))
  begins-alike c answer line (inr (inr (polls, getting, said, (same, has)))) = (g, grown-none s.history t.history g alike same, inr (inr (polls, getting, said, (refl, has))))

  ends-alike : (c : ℕ) (answer : Answer) (line : PlainLine) → Ends c line s answer t → SimHolding (λ a b. Ends c line a answer b) s t g
  ends-alike c (Ok (outcome.Done done)) line (nothing, (same, has)) = (g, grown-none s.history t.history g alike same, (nothing, (refl, has)))
  ends-alike c (Ok _) line none = absurd none
  ends-alike c (Err e) line none = absurd none

  takes-alike : (c most : ℕ) (answer : Answer) (line : PlainLine) → is_open s.history.base s.history.journal c ≡ true → Takes most (visit_at c now) line s answer t → SimHolding (λ a b. Takes most (visit_at c now) line a answer b) s t g
  takes-alike c most (Ok o) line known has =
      has-line keeps now s t g alike (Ok o) c (λ after h k. TakesFor c most now (Ok o) h k line after) (λ after does. takes-for keeps c most now s.history t.history g alike known line after (Ok o) does) has
  takes-alike c most (Err e) line known (is, has) =
      let (m, grown, also) = has-line keeps now s t g alike (Err e) c (λ after h k. TakesFor c most now (Err e.fault) h k line after) (λ after does. takes-for keeps c most now s.history t.history g alike known line after (Err e.fault) does) has in (m, grown, (is, also))

  takes-frames : (c most : ℕ) (answer : Answer) (line : PlainLine) → is_open s.history.base s.history.journal c ≡ true → TakesFrames most (visit_at c now) line s answer t → SimHolding (λ a b. TakesFrames most (visit_at c now) line a answer b) s t g
  takes-frames c most (Ok o) line known has =
      has-line keeps now s t g alike (Ok o) c (λ after h k. SendsFor c most now (Ok o) h k line after) (λ after does. sends-for keeps c most now s.history t.history g alike known line after (Ok o) does) has
  takes-frames c most (Err e) line known (is, has) =
      let (m, grown, also) = has-line keeps now s t g alike (Err e) c (λ after h k. SendsFor c most now (Err e.fault) h k line after) (λ after does. sends-for keeps c most now s.history t.history g alike known line after (Err e.fault) does) has in (m, grown, (is, also))

  loses-alike : (c : ℕ) (answer : Answer) → Loses (visit_at c now) s answer t → SimHolding (λ a b. Loses (visit_at c now) a answer b) s t g
  loses-alike c (Ok (outcome.Lost true done)) (nothing, makes, lost) =
      let both = make-alike keeps now s.history g t.history alike (what.Parked c) tt makes in (with_step g now (what.Parked c), both.0, (nothing, both.1, lost))
  loses-alike c (Ok (outcome.Lost false done)) (nothing, refusal, makes, lost) =
      let both = make-alike keeps now s.history g t.history alike (what.Closed c) tt makes in
      (with_step g now (what.Closed c), both.0, (nothing, refused-alike keeps now s.history g alike (what.Parked c) hub.SavedFull refusal, both.1, lost))
  loses-alike c (Ok _) none = absurd none
  loses-alike c (Err e) ((is, same, lines), fails) = (g, grown-none s.history t.history g alike same, ((is, refl, lines), fails-to-park keeps now c s.history g alike e.fault fails))

  -- ---- time and transport

  ticks-on : (d : Due) (c : ℕ) (answer : Answer) (line : PlainLine) → TicksOn d (visit_at c now) line s answer t → SimHolding (λ a b. TicksOn d (visit_at c now) line a answer b) s t g
  ticks-on due.Nothing c answer line (said, (same, has)) = (g, grown-none s.history t.history g alike same, (said, (refl, has)))
  ticks-on due.SendPing c answer line (said, (same, has)) = (g, grown-none s.history t.history g alike same, (said, (refl, has)))
  ticks-on due.PingTimeout c (Ok o) line (said, parks, lost) =
      let (m, grown, also) = parks-or-closes keeps now c s.history g t.history alike parks in (m, grown, (said, also, lost))
  ticks-on due.PingTimeout c (Err e) line (said, fails, (same, has)) =
      (g, grown-none s.history t.history g alike same, (said, fails-to-park keeps now c s.history g alike e.fault fails, (refl, has)))
  ticks-on due.ConnectTimeout c (Ok o) line (said, makes, lost) =
      let both = make-alike keeps now s.history g t.history alike (what.Closed c) tt makes in (with_step g now (what.Closed c), both.0, (said, both.1, lost))
  ticks-on due.ConnectTimeout c (Err e) line (said, stops, (same, has)) =
      (g, grown-none s.history t.history g alike same, (said, stops-alike keeps now s.history g alike (what.Closed c) e.fault stops, (refl, has)))

  ticks-alike : (c : ℕ) (answer : Answer) (line : PlainLine) → Ticks (visit_at c now) line s answer t → SimHolding (λ a b. Ticks (visit_at c now) line a answer b) s t g
  ticks-alike c answer line (d, due, on) = let (m, grown, also) = ticks-on d c answer line on in (m, grown, (d, due, also))

  sweeps-alike : (answer : Answer) → Sweeps now s answer t → SimHolding (λ a b. Sweeps now a answer b) s t g
  sweeps-alike (Ok (outcome.Swept dropped)) (makes, drops, lines) =
      let both = make-alike keeps now s.history g t.history alike what.Swept tt makes in
      let m = with_step g now what.Swept in
      (m, both.0, (both.1, drops-alike dropped s.history t.history g m alike both.0.alike drops, lines))
  sweeps-alike (Ok _) none = absurd none
  sweeps-alike (Err e) (stops, (is, same, lines)) =
      (g, grown-none s.history t.history g alike same, (stops-alike keeps now s.history g alike what.Swept e.fault stops, (is, refl, lines)))

  probes-alike : (c : ℕ) (answer : Answer) (line : PlainLine) → Probes c line s answer t → SimHolding (λ a b. Probes c line a answer b) s t g
  probes-alike c answer line (inl short) = let (m, grown, also) = refused keeps now s t g alike answer Memory short in (m, grown, inl also)
  probes-alike c answer line (inr (on, speaks, row)) = let (m, grown, also) = by on row in (m, grown, inr (on, speaks, also))
    where
      by : (on : Transport) → ProbesOn on c line s answer t → SimHolding (λ a b. ProbesOn on c line a answer b) s t g
      by Polling (said, (same, has)) = (g, grown-none s.history t.history g alike same, (said, (refl, has)))
      by Probing (is, same, lines) = (g, grown-none s.history t.history g alike same, (is, refl, lines))
      by Socket (is, same, lines) = (g, grown-none s.history t.history g alike same, (is, refl, lines))

  ends-probe : (end : Call) (c : ℕ) (answer : Answer) (line : PlainLine) → EndsProbe end c line s answer t → SimHolding (λ a b. EndsProbe end c line a answer b) s t g
  ends-probe end c answer line (on, speaks, row) = let (m, grown, also) = by on row in (m, grown, (on, speaks, also))
    where
      by : (on : Transport) → EndsProbeOn on end c line s answer t → SimHolding (λ a b. EndsProbeOn on end c line a answer b) s t g
      by Polling (is, same, lines) = (g, grown-none s.history t.history g alike same, (is, refl, lines))
      by Probing (said, (same, has)) = (g, grown-none s.history t.history g alike same, (said, (refl, has)))
      by Socket (is, same, lines) = (g, grown-none s.history t.history g alike same, (is, refl, lines))

  -- ---- packets

  module _ (policy : Policy) (ids left : ℕ → ℕ) where
    works-on : (c : ℕ) (packets : List Packet) (answer : Answer) (line : PlainLine) → WorksOn policy (visit_at c now) packets line (with_ids s ids) answer (with_ids t left) → SimHolding (λ a b. WorksOn policy (visit_at c now) packets line (with_ids a ids) answer (with_ids b left)) s t g
    works-on c packets (Ok (outcome.Done done)) line (m, run, said, there, keeps', drawn) =
        let (k, grown, also) = packets-alike keeps now policy c packets (course (opening s.history line) ids) m g alike run in
        (k, subst (λ (h : History). Grown s.history h g k) (sym there) grown, (_, also, said, refl, keeps', drawn))
    works-on c packets (Ok _) line none = absurd none
    works-on c packets (Err e) line (m, breaks, there, has, drawn) =
        let (k, grown, also) = breaks-alike keeps now policy c packets (course (opening s.history line) ids) e m g alike breaks in
        (k, subst (λ (h : History). Grown s.history h g k) (sym there) grown, (_, also, refl, has, drawn))

    posts-alike : (c : ℕ) (body : List ℕ) (answer : Answer) (line : PlainLine) → Posts policy (visit_at c now) body line (with_ids s ids) answer (with_ids t left) → SimHolding (λ a b. Posts policy (visit_at c now) body line (with_ids a ids) answer (with_ids b left)) s t g
    posts-alike c body answer line (inl (on, (refusal, drawn))) = let (m, grown, also) = refused keeps now s t g alike answer _ refusal in (m, grown, inl (on, (also, drawn)))
    posts-alike c body answer line (inr (polls, inl (refusal, drawn))) = let (m, grown, also) = refused keeps now s t g alike answer _ refusal in (m, grown, inr (polls, inl (also, drawn)))
    posts-alike c body answer line (inr (polls, inr (inl (packets, payload, does)))) =
        let (m, grown, also) = works-on c packets answer line does in (m, grown, inr (polls, inr (inl (packets, payload, also))))
    posts-alike c body answer line (inr (polls, inr (inr (fault, faulty, (closes, drawn))))) =
        let (m, grown, also) = closes-unread c _ answer closes in (m, grown, inr (polls, inr (inr (fault, faulty, (also, drawn)))))

    posts-for : (c : ℕ) (body : List ℕ) (answer : Answer) → PostsFor policy (visit_at c now) body (with_ids s ids) answer (with_ids t left) → SimHolding (λ a b. PostsFor policy (visit_at c now) body (with_ids a ids) answer (with_ids b left)) s t g
    posts-for c body answer does = on (s.lines c) does
      where
        on : (o : Option PlainLine) → elim o as (λ (o : Option PlainLine). Type 0) [ None ↦ Refused UnknownClient s answer t × (left ≡ ids) | Some line ↦ Posts policy (visit_at c now) body line (with_ids s ids) answer (with_ids t left) ]
            → (m : History) × Grown s.history t.history g m
            × elim o as (λ (o : Option PlainLine). Type 0) [ None ↦ Refused UnknownClient (put s g) answer (put t m) × (left ≡ ids) | Some line ↦ Posts policy (visit_at c now) body line (with_ids (put s g) ids) answer (with_ids (put t m) left) ]
        on None (refusal, drawn) = let (m, grown, also) = refused keeps now s t g alike answer _ refusal in (m, grown, (also, drawn))
        on (Some line) does = posts-alike c body answer line does

    reads-frame : (c : ℕ) (frame : WsFrame) (answer : Answer) (line : PlainLine) → ReadsFrame policy (visit_at c now) frame line (with_ids s ids) answer (with_ids t left) → SimHolding (λ a b. ReadsFrame policy (visit_at c now) frame line (with_ids a ids) answer (with_ids b left)) s t g
    reads-frame c frame answer line (inl (refusal, drawn)) = let (m, grown, also) = refused keeps now s t g alike answer _ refusal in (m, grown, inl (also, drawn))
    reads-frame c frame answer line (inr (inl (packet, framed, does))) = let (m, grown, also) = works-on c (packet ∷ []) answer line does in (m, grown, inr (inl (packet, framed, also)))
    reads-frame c frame answer line (inr (inr (fault, faulty, (closes, drawn)))) = let (m, grown, also) = closes-unread c _ answer closes in (m, grown, inr (inr (fault, faulty, (also, drawn))))

    receives-one : (c : ℕ) (frame : WsFrame) (answer : Answer) (line : PlainLine) → ReceivesOne policy (visit_at c now) frame line (with_ids s ids) answer (with_ids t left) → SimHolding (λ a b. ReceivesOne policy (visit_at c now) frame line (with_ids a ids) answer (with_ids b left)) s t g
    receives-one c frame answer line does = by (is_too_long frame) does
      where
        by : (b : Bool) → elim b as (λ (b : Bool). Type 0) [ true ↦ ClosesUnread cause.TooLong (visit_at c now) s answer t × (left ≡ ids) | false ↦ ReadsFrame policy (visit_at c now) frame line (with_ids s ids) answer (with_ids t left) ]
            → (m : History) × Grown s.history t.history g m
            × elim b as (λ (b : Bool). Type 0) [ true ↦ ClosesUnread cause.TooLong (visit_at c now) (put s g) answer (put t m) × (left ≡ ids) | false ↦ ReadsFrame policy (visit_at c now) frame line (with_ids (put s g) ids) answer (with_ids (put t m) left) ]
        by true (closes, drawn) = let (m, grown, also) = closes-unread c cause.TooLong answer closes in (m, grown, (also, drawn))
        by false does = reads-frame c frame answer line does

    receives-alike : (c : ℕ) (frame : WsFrame) (answer : Answer) (line : PlainLine) → Receives policy (visit_at c now) frame line (with_ids s ids) answer (with_ids t left) → SimHolding (λ a b. Receives policy (visit_at c now) frame line (with_ids a ids) answer (with_ids b left)) s t g
    receives-alike c frame answer line (inl (polls, (refusal, drawn))) = let (m, grown, also) = refused keeps now s t g alike answer _ refusal in (m, grown, inl (polls, (also, drawn)))
    receives-alike c frame answer line (inr (on, does)) = let (m, grown, also) = receives-one c frame answer line does in (m, grown, inr (on, also))

    receives-for : (c : ℕ) (frame : WsFrame) (answer : Answer) → ReceivesFor policy (visit_at c now) frame (with_ids s ids) answer (with_ids t left) → SimHolding (λ a b. ReceivesFor policy (visit_at c now) frame (with_ids a ids) answer (with_ids b left)) s t g
    receives-for c frame answer does = on (s.lines c) does
      where
        on : (o : Option PlainLine) → elim o as (λ (o : Option PlainLine). Type 0) [ None ↦ Refused UnknownClient s answer t × (left ≡ ids) | Some line ↦ Receives policy (visit_at c now) frame line (with_ids s ids) answer (with_ids t left) ]
            → (m : History) × Grown s.history t.history g m
            × elim o as (λ (o : Option PlainLine). Type 0) [ None ↦ Refused UnknownClient (put s g) answer (put t m) × (left ≡ ids) | Some line ↦ Receives policy (visit_at c now) frame line (with_ids (put s g) ids) answer (with_ids (put t m) left) ]
        on None (refusal, drawn) = let (m, grown, also) = refused keeps now s t g alike answer _ refusal in (m, grown, (also, drawn))
        on (Some line) does = receives-alike c frame answer line does

    -- ---- the row of an event

    row-alike : OfOpen s → (told : Handshake) (happened : Event) (answer : Answer) → Row policy told now happened (with_ids s ids) answer (with_ids t left)
        → SimHolding (λ a b. Row policy told now happened (with_ids a ids) answer (with_ids b left)) s t g
    row-alike known told (event.Opened socket) answer (does, drawn) = let (m, grown, also) = opens-alike told socket (ids 0) answer does in (m, grown, (also, drawn))
    row-alike known told (event.Post c body) answer does = posts-for c body answer does
    row-alike known told (event.Frame c frame) answer does = receives-for c frame answer does
    row-alike known told (event.PollBegin c) answer (does, drawn) =
        let (m, grown, also) = for-client keeps now s t g alike answer c (Begins (visit_at c now)) (λ line is row. begins-alike c answer line row) does in (m, grown, (also, drawn))
    row-alike known told (event.PollEnd c) answer (does, drawn) =
        let (m, grown, also) = for-client keeps now s t g alike answer c (Ends c) (λ line is row. ends-alike c answer line row) does in (m, grown, (also, drawn))
    row-alike known told (event.PollTake c most) answer (does, drawn) =
        let (m, grown, also) = for-client keeps now s t g alike answer c (Takes most (visit_at c now)) (λ line is row. takes-alike c most answer line (known c line is) row) does in (m, grown, (also, drawn))
    row-alike known told (event.FrameTake c most) answer (does, drawn) =
        let (m, grown, also) = for-client keeps now s t g alike answer c (TakesFrames most (visit_at c now)) (λ line is row. takes-frames c most answer line (known c line is) row) does in (m, grown, (also, drawn))
    row-alike known told (event.Probe c) answer (does, drawn) =
        let (m, grown, also) = for-client keeps now s t g alike answer c (Probes c) (λ line is row. probes-alike c answer line row) does in (m, grown, (also, drawn))
    row-alike known told (event.Upgraded c) answer (does, drawn) =
        let (m, grown, also) = for-client keeps now s t g alike answer c (EndsProbe Upgraded c) (λ line is row. ends-probe Upgraded c answer line row) does in (m, grown, (also, drawn))
    row-alike known told (event.ProbeLost c) answer (does, drawn) =
        let (m, grown, also) = for-client keeps now s t g alike answer c (EndsProbe ProbeLost c) (λ line is row. ends-probe ProbeLost c answer line row) does in (m, grown, (also, drawn))
    row-alike known told (event.TransportLost c) answer (does, drawn) =
        let (m, grown, also) = for-client keeps now s t g alike answer c (λ line. Loses (visit_at c now)) (λ line is row. loses-alike c answer row) does in (m, grown, (also, drawn))
    row-alike known told (event.Tick c) answer (does, drawn) =
        let (m, grown, also) = for-client keeps now s t g alike answer c (Ticks (visit_at c now)) (λ line is row. ticks-alike c answer line row) does in (m, grown, (also, drawn))
    row-alike known told event.Sweep answer (does, drawn) = let (m, grown, also) = sweeps-alike answer does in (m, grown, (also, drawn))

-- ---- an event

module _ (keeps : StaysSound) (now : ℕ) (s t : Holding) (g : History) (alike : AreAlike s.history g)
    (policy : Policy) (ids left : ℕ → ℕ) where
  pub does-alike : OfOpen s → (told : Handshake) (happened : Event) (answer : Answer) → Does policy told now happened (with_ids s ids) answer (with_ids t left)
      → SimHolding (λ a b. Does policy told now happened (with_ids a ids) answer (with_ids b left)) s t g
  does-alike known told happened answer (h, said, row, heard) =
      let (m, grown, also) = row-alike keeps now s (put t h) g alike policy ids left known told happened said row in
      let (n, further, hears) = after-alike keeps policy now (ended_since s.history h) h t.history m grown.alike said answer (client_of happened) heard in
      let same = ended-alike s.history h g m grown in (
        n,
        grown-on s.history h t.history g m n grown further,
        (m, said, also, subst (λ (ended : List PlainEnded). HearsAfter policy now (client_of happened) ended m said answer n) (sym same) hears),
      )
