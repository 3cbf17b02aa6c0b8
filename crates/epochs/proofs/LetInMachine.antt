-- What an event leaves: it attaches a socket only where the app lets it in, by a CONNECT that the event brought.
use Rattle.std.proofs.Common.{◌≡◌, ℕ, ◌==◌, Bool, true, false, List, [], ◌∷◌, refl, sym, ◌∙◌, ap, subst, arith, take, length, Contains, Option, None, Some, Result, Ok, Err, inl, inr}
use Rattle.std.specs.List.{AllByRecursion}
use Rattle.std.proofs.lemmas.Bool.Decides.{nat_tests}
use Rattle.std.proofs.lemmas.List.Elements.{All-weaker, All-contains_itself, recursion_from_All}
use Rattle.eio_wire.specs.declared.packet.Packet.{Packet}
use Rattle.eio_wire.specs.Payload.{Payload}
use Rattle.connection.specs.declared.clock.Due.{Due}
use Rattle.connection.specs.declared.clock.Due.TheVariants as due
use Rattle.connection.specs.declared.clock.Transport.{Transport}
use Rattle.connection.specs.declared.clock.Transport.TheVariants.{Polling, Probing, Socket}
use Rattle.connection.specs.History.{Call, GetBegan, GetEnded, Ticked, Probed, Upgraded, ProbeLost}
use Rattle.connection.specs.Line.{PlainLine, HasHistory}
use Rattle.terms.specs.declared.entry.Entry.{Entry}
use Rattle.journal.specs.declared.step.What.{What}
use Rattle.journal.specs.declared.step.What.TheVariants as what
use Rattle.journal.specs.Journal.{History}
use Rattle.hub_state.specs.EndedSockets.{PlainEnded}
use Rattle.events.specs.declared.app.Effect.{Effect}
use Rattle.events.specs.declared.app.Effect.TheVariants.{Join, Leave, Emit, EmitAsk, Reply, Report, Fetch, Disconnect, AllJoin, AllLeave, AllEnd}
use Rattle.events.specs.declared.cause.Cause.{Cause}
use Rattle.events.specs.declared.cause.Cause.TheVariants as cause
use Rattle.events.specs.declared.fault.CoreFault.{CoreFault}
use Rattle.events.specs.declared.fault.CoreFault.TheVariants.{UnknownClient, BadEffect}
use Rattle.events.specs.declared.event.Event.{Event}
use Rattle.events.specs.declared.event.Event.TheVariants as event
use Rattle.events.specs.declared.event.WsFrame.{WsFrame}
use Rattle.events.specs.declared.outcome.Outcome.TheVariants as outcome
use Rattle.events.specs.Answer.{Answer}
use Rattle.events.specs.App.{Policy}
use Rattle.events.specs.Event.{client_of}
use Rattle.events.specs.Plain.{PlainDone}
use Rattle.dispatch.specs.Broadcasting.{Work, work, BroadcastsOrFails}
use Rattle.dispatch.specs.Commands.{Makes}
use Rattle.dispatch.specs.Effects.{is_bad_emission}
use Rattle.dispatch.specs.Hearing.{Sends, HearsOf, ended_since}
use Rattle.dispatch.specs.Runs.{RunsOrFails}
use Rattle.dispatch.proofs.RunsLemmas.{run-keeps}
use Rattle.dispatch.specs.Scene.{visit_at}
use Rattle.dispatch.specs.declared.clients.Handshake.{Handshake}
use Rattle.dispatch.specs.Answers.{Refused, KeepsWhileOpen, AdvancesLine, ClosesUnread, ForClient}
use Rattle.dispatch.specs.Frames.{IsFrameOf, is_too_long, SendsFor, SendsOn, SendsFirst}
use Rattle.dispatch.specs.Frames as frames
use Rattle.dispatch.specs.Hearing.{done_before, Hears, HearsAfter}
use Rattle.dispatch.specs.Holding.{Holding, KeepsOthers, KeepsLines, HasLine, LosesLine, with_ids}
use Rattle.dispatch.specs.Machine.{Opens, Begins, Ends, Takes, TakesFrames, Loses, opening, WorksOn, Posts, PostsFor, ReadsFrame, ReceivesOne, ReceivesFor, Row, Does, Receives}
use Rattle.dispatch.specs.Packets.{course}
use Rattle.dispatch.specs.Parking.{ParksOrCloses}
use Rattle.dispatch.specs.Takes.{handed, carried, Take, Counts, IsShort, TellsNoop, Carries, FindsNothing, TakesFirst, TakesOn, TakesFor, ping_calls}
use Rattle.dispatch.specs.Upgrade.{Probes, ProbesOn, EndsProbe, EndsProbeOn}
use Rattle.dispatch.specs.Upkeep.{Ticks, TicksOn, Sweeps}
use Rattle.epochs.specs.LetIn.{Brings, HaveHistories, attaches}
use Rattle.epochs.proofs.ConnectLemmas.{advanced}
use Rattle.epochs.proofs.QuietEffects.{KeptWhileQuiet}
use Rattle.epochs.proofs.LetInPackets.{KeptWhenLetIn, IsBrought, all-packets, broken-packets}

-- ---- the lines

-- the other clients' lines are as they were, and this one's has a history
lines-by : (c : ℕ) (s t : Holding) → KeepsOthers c s t → ((line : PlainLine) → t.lines c ≡ Some line → HasHistory line) → HaveHistories s → HaveHistories t
lines-by c s t others own was d line is = on (c == d) refl
  where
    on : (b : Bool) → (c == d) ≡ b → HasHistory line
    on true e = let same : c ≡ d = grind (arith, nat_tests, e) in own line (ap (λ (x : ℕ). t.lines x) same ∙ is)
    on false e = was d line (sym (others d e) ∙ is)

lines-kept : (s t : Holding) → KeepsLines s t → HaveHistories s → HaveHistories t
lines-kept s t kept was d line is = was d line (sym (kept d) ∙ is)

lines-lost : (c : ℕ) (s t : Holding) → LosesLine c s t → HaveHistories s → HaveHistories t
lines-lost c s t (gone, others) was = lines-by c s t others (λ line is. absurd (none line (sym gone ∙ is))) was
  where
    none : (line : PlainLine) → None ≡ Some line → ⊥
    none line e = absurd (cc e)

-- the client has such a line
lines-has : (c : ℕ) (P : PlainLine → Type 0) (s t : Holding) → ((line : PlainLine) → P line → HasHistory line) → HasLine c P s t → HaveHistories s → HaveHistories t
lines-has c P s t each (has, others) was = lines-by c s t others (λ line is. on (t.lines c) has line is) was
  where
    one : (l line : PlainLine) → Some l ≡ Some line → l ≡ line
    one l line e = cc e

    on : (o : Option PlainLine) → elim o as (λ (o : Option PlainLine). Type 0) [ None ↦ ⊥ | Some line ↦ P line ] → (line : PlainLine) → o ≡ Some line → HasHistory line
    on None none line is = absurd none
    on (Some l) holds line is = each line (subst P (one l line is) holds)

module _ (Is : History → Type 0) (quiet : KeptWhileQuiet Is) (now : ℕ) where
  -- what an event keeps
  abbrev pub Has : Holding → Type 0
  Has s = Is s.history × HaveHistories s

  made : (w : What) → attaches w ≡ [] → (h k : History) → Makes h now w k → Is h → Is k
  made w none h k makes was = quiet h k now w none makes.1 was

  parks : (c : ℕ) (h k : History) → ParksOrCloses h now c k → Is h → Is k
  parks c h k (inl makes) was = made (what.Parked c) refl h k makes was
  parks c h k (inr (refused, makes)) was = made (what.Closed c) refl h k makes was

  same-history : (h k : History) → k ≡ h → Is h → Is k
  same-history h k same was = subst Is (sym same) was

  -- ---- what the app sends where sockets have ended

  sends : (c : ℕ) (s : Work) (effect : Effect) (r : Result (Unit {0}) CoreFault) (t : Work) → Sends c now s effect r t → Is s.history → Is t.history
  sends c s (Emit e) r t does was = on (is_bad_emission s.history.limits e) r does
    where
      on : (bad : Bool) (r : Result (Unit {0}) CoreFault) → elim bad as (λ (bad : Bool). Type 0) [ true ↦ (r ≡ Err BadEffect) × (t ≡ s) | false ↦ BroadcastsOrFails c e now s r t ] → Is t.history
      on true r (is, same) = subst (λ (u : Work). Is u.history) (sym same) was
      on false (Ok x) (fine, done, cast, told) = quiet s.history t.history now (what.Cast cast.b) refl cast.step was
      on false (Err fault) (cannot, same) = subst (λ (u : Work). Is u.history) (sym same) was
  sends c s (Join room) r t (is, same) was = subst (λ (u : Work). Is u.history) (sym same) was
  sends c s (Leave room) r t (is, same) was = subst (λ (u : Work). Is u.history) (sym same) was
  sends c s (EmitAsk q) r t (is, same) was = subst (λ (u : Work). Is u.history) (sym same) was
  sends c s (Reply p) r t (is, same) was = subst (λ (u : Work). Is u.history) (sym same) was
  sends c s Report r t (is, same) was = subst (λ (u : Work). Is u.history) (sym same) was
  sends c s (Fetch m) r t (is, same) was = subst (λ (u : Work). Is u.history) (sym same) was
  sends c s Disconnect r t (is, same) was = subst (λ (u : Work). Is u.history) (sym same) was
  sends c s (AllJoin m room) r t (is, same) was = subst (λ (u : Work). Is u.history) (sym same) was
  sends c s (AllLeave m room) r t (is, same) was = subst (λ (u : Work). Is u.history) (sym same) was
  sends c s (AllEnd m) r t (is, same) was = subst (λ (u : Work). Is u.history) (sym same) was

  any : {A : Type 0} (xs : List A) → AllByRecursion (λ (x : A). Unit {0}) xs
  any [] = tt
  any (x ∷ xs) = (tt, any xs)

  -- what each thing of a list keeps, all of them keep, or those before the one that fails
  run-or-fails : {A : Type 0} (R : Work → A → Result (Unit {0}) CoreFault → Work → Type 0) → ((s : Work) (x : A) (r : Result (Unit {0}) CoreFault) (t : Work) → R s x r t → Is s.history → Is t.history)
      → (xs : List A) (s : Work) (r : Result (Unit {0}) CoreFault) (t : Work) → RunsOrFails R xs s r t → Is s.history → Is t.history
  run-or-fails {A} R each xs s (Ok x) t run was =
      run-keeps (λ a x b. R a x (Ok tt) b) (λ (x : A). Unit {0}) (λ (u : Work). Is u.history) (λ a b x one has does. each a x (Ok tt) b does has) xs s t (any xs) was run
  run-or-fails {A} R each xs s (Err e) t (done, (at, run, x, there, fails)) was =
      each at x (Err e) t fails
      (run-keeps (λ a x b. R a x (Ok tt) b) (λ (x : A). Unit {0}) (λ (u : Work). Is u.history) (λ a b x one has does. each a x (Ok tt) b does has) (take done xs) s at (any (take done xs)) was run)

  module _ (policy : Policy) where
    hears-of : (c : ℕ) (s : Work) (gone : PlainEnded) (r : Result (Unit {0}) CoreFault) (t : Work) → HearsOf policy c now s gone r t → Is s.history → Is t.history
    hears-of c s gone r t (inl (is, same)) was = subst (λ (u : Work). Is u.history) (sym same) was
    hears-of c s gone r t (inr (effects, wants, clean, run)) was = run-or-fails (Sends c now) (sends c) effects s r t run was

    -- the app hears of the sockets that ended
    pub hears-after : (o : Option ℕ) (ended : List PlainEnded) (h : History) (said answer : Answer) (k : History) → HearsAfter policy now o ended h said answer k → Is h → Is k
    hears-after None ended h said answer k (is, same) was = same-history h k same was
    hears-after (Some c) ended h said answer k heard was = on (done_before said) heard
      where
        on : (o : Option PlainDone) → elim o as (λ (o : Option PlainDone). Type 0) [ None ↦ (answer ≡ said) × (k ≡ h) | Some before ↦ Hears policy c now ended h said answer k before ] → Is k
        on None (is, same) = same-history h k same was
        on (Some before) (r, after, run, is) = run-or-fails (HearsOf policy c now) (hears-of c) ended (work h before) r (work k after) run was

  -- ---- takes

  counts : (c n : ℕ) (h k : History) → Counts c n now h k → Is h → Is k
  counts c n h k does was = on (handed h c n) does
    where
      on : (es : List Entry) → elim es as (λ (es : List Entry). Type 0) [ [] ↦ k ≡ h | entry ∷ entries ↦ Makes h now (what.Took c n (length (entry ∷ entries))) k ] → Is k
      on [] same = same-history h k same was
      on (entry ∷ entries) makes = made (what.Took c n (length (entry ∷ entries))) refl h k makes was

  module _ (c : ℕ) (h k : History) (old new : PlainLine) (is : Is h) (was : HasHistory old) where
    -- what a take keeps
    abbrev Kept : Type 0
    Kept = Is k × HasHistory new

    none : k ≡ h → new ≡ old → Kept
    none same line = (same-history h k same is, subst HasHistory (sym line) was)

    short : (answer : Take) → IsShort answer h k old new → Kept
    short (Ok o) never = absurd never
    short (Err e) (fault, same, line) = none same line

    noop : (answer : Take) → TellsNoop answer h k old new → Kept
    noop (Ok (outcome.Payload text)) (said, same, advances) = (same-history h k same is, advanced old new (GetEnded ∷ []) advances was)
    noop (Ok _) never = absurd never
    noop (Err e) (fault, same, line) = none same line

    finds-nothing : (on : Transport) (answer : Take) → FindsNothing on answer h k old new → Kept
    finds-nothing Probing answer does = noop answer does
    finds-nothing Polling answer (said, same, line) = none same line
    finds-nothing Socket answer (said, same, line) = none same line

    carries : (n : ℕ) (ping : Bool) (answer : Take) → Carries c n now ping answer h k old new → Kept
    carries n ping (Ok (outcome.Payload text)) (said, counted, advances) = (counts c n h k counted is, advanced old new (GetEnded ∷ ping_calls ping) advances was)
    carries n ping (Ok _) never = absurd never
    carries n ping (Err e) (fault, fails, (said, same, line)) = none same line

    sent : (n : ℕ) (ping : Bool) (answer : Take) → frames.Sends c n now ping answer h k old new → Kept
    sent n ping (Ok (outcome.Frames list)) (said, counted, advances, more) = (counts c n h k counted is, advanced old new (ping_calls ping) advances was)
    sent n ping (Ok _) never = absurd never
    sent n ping (Err e) (fault, fails, (said, same, line)) = none same line

    takes-first : (on : Transport) (ping : Bool) (n : ℕ) (answer : Take) → TakesFirst on ping c n now answer h k old new → Kept
    takes-first on ping n answer (inl never) = short answer never
    takes-first on ping n answer (inr does) = by (carried ping (handed h c n)) does
      where
        by : (packets : List Packet) → elim packets as (λ (packets : List Packet). Type 0) [ [] ↦ FindsNothing on answer h k old new | packet ∷ packets ↦ Carries c n now ping answer h k old new ] → Kept
        by [] does = finds-nothing on answer does
        by (packet ∷ packets) does = carries n ping answer does

    takes-on : (on : Transport) (getting ping : Bool) (most : ℕ) (answer : Take) → TakesOn on getting ping c most now answer h k old new → Kept
    takes-on Socket true ping most answer does = noop answer does
    takes-on Socket false ping most answer (said, same, line) = none same line
    takes-on Polling getting ping most answer (n, taken, first) = takes-first Polling ping n answer first
    takes-on Probing getting ping most answer (n, taken, first) = takes-first Probing ping n answer first

    takes-for : (most : ℕ) (answer : Take) → TakesFor c most now answer h k old new → Kept
    takes-for most answer (on, getting, ping, speaks, waits, pings, does) = takes-on on getting ping most answer does

    sends-first : (ping : Bool) (n : ℕ) (answer : Take) → SendsFirst ping c n now answer h k old new → Kept
    sends-first ping n answer (inl never) = short answer never
    sends-first ping n answer (inr does) = by (carried ping (handed h c n)) does
      where
        by : (packets : List Packet) → elim packets as (λ (packets : List Packet). Type 0) [ [] ↦ (answer ≡ Ok outcome.Nothing) × (k ≡ h) × (new ≡ old) | packet ∷ packets ↦ frames.Sends c n now ping answer h k old new ] → Kept
        by [] (said, same, line) = none same line
        by (packet ∷ packets) does = sent n ping answer does

    sends-on : (on : Transport) (ping : Bool) (most : ℕ) (answer : Take) → SendsOn on ping c most now answer h k old new → Kept
    sends-on Socket ping most answer (n, taken, first) = sends-first ping n answer first
    sends-on Polling ping most answer (said, same, line) = none same line
    sends-on Probing ping most answer (said, same, line) = none same line

    sends-for : (most : ℕ) (answer : Take) → SendsFor c most now answer h k old new → Kept
    sends-for most answer (on, ping, speaks, pings, does) = sends-on on ping most answer does

  -- ---- rows

  module _ (s t : Holding) (was : Has s) where
    refused : (fault : CoreFault) (answer : Answer) → Refused fault s answer t → Has t
    refused fault answer (said, same, lines) = (same-history s.history t.history same was.0, lines-kept s t lines was.1)

    advances-line : (c : ℕ) (line : PlainLine) (calls : List Call) → HasHistory line → AdvancesLine c line calls s t → Has t
    advances-line c line calls history (same, has) =
        (same-history s.history t.history same was.0, lines-has c _ s t (λ after advances. advanced line after calls advances history) has was.1)

    -- by the client's line
    for-client : (c : ℕ) (row : PlainLine → Holding → Answer → Holding → Type 0) (answer : Answer) → ((line : PlainLine) → HasHistory line → row line s answer t → Has t) → ForClient c row s answer t → Has t
    for-client c row answer each does = on (s.lines c) refl does
      where
        on : (o : Option PlainLine) → s.lines c ≡ o → elim o as (λ (o : Option PlainLine). Type 0) [ None ↦ Refused UnknownClient s answer t | Some line ↦ row line s answer t ] → Has t
        on None none does = refused UnknownClient answer does
        on (Some line) is does = each line (was.1 c line is) does

    -- a take that leaves such a line
    takes-line : (c : ℕ) (P : PlainLine → Type 0) → ((line : PlainLine) → P line → Is t.history × HasHistory line) → HasLine c P s t → Has t
    takes-line c P each (has, others) = (on (t.lines c) has, lines-has c P s t (λ line does. (each line does).1) (has, others) was.1)
      where
        on : (o : Option PlainLine) → elim o as (λ (o : Option PlainLine). Type 0) [ None ↦ ⊥ | Some line ↦ P line ] → Is t.history
        on None none = absurd none
        on (Some line) does = (each line does).0

    closes-unread : (c : ℕ) (why : Cause) (answer : Answer) → ClosesUnread why (visit_at c now) s answer t → Has t
    closes-unread c why (Ok (outcome.Done done)) (said, makes, lost) = (made (what.Closed c) refl s.history t.history makes was.0, lines-lost c s t lost was.1)
    closes-unread c why (Ok _) never = absurd never
    closes-unread c why (Err e) (stops, (is, same, lines)) = (same-history s.history t.history same was.0, lines-kept s t lines was.1)

    opens : (told : Handshake) (socket : Bool) (c : ℕ) (answer : Answer) → Opens told socket (visit_at c now) s answer t → Has t
    opens told socket c (Ok (outcome.Opened o)) (client, said, makes, has) =
        (made (what.Opened c) refl s.history t.history makes was.0, lines-has c _ s t (λ line leads. record { opening = record { now = now; timing = told.timing; socket = socket }; calls = []; leads = leads }) has was.1)
    opens told socket c (Ok _) never = absurd never
    opens told socket c (Err e) (stops, (is, same, lines)) = (same-history s.history t.history same was.0, lines-kept s t lines was.1)

    begins : (c : ℕ) (answer : Answer) (line : PlainLine) → HasHistory line → Begins (visit_at c now) line s answer t → Has t
    begins c answer line history (inl (on, does)) = refused _ answer does
    begins c answer line history (inr (inl (polls, getting, does))) = closes-unread c _ answer does
    begins c answer line history (inr (inr (polls, getting, said, does))) = advances-line c line (GetBegan ∷ []) history does

    ends : (c : ℕ) (answer : Answer) (line : PlainLine) → HasHistory line → Ends c line s answer t → Has t
    ends c (Ok (outcome.Done done)) line history (nothing, does) = advances-line c line (GetEnded ∷ []) history does
    ends c (Ok _) line history never = absurd never
    ends c (Err e) line history never = absurd never

    takes : (c most : ℕ) (answer : Answer) (line : PlainLine) → HasHistory line → Takes most (visit_at c now) line s answer t → Has t
    takes c most (Ok o) line history has = takes-line c _ (λ after does. takes-for c s.history t.history line after was.0 history most (Ok o) does) has
    takes c most (Err e) line history (is, has) = takes-line c _ (λ after does. takes-for c s.history t.history line after was.0 history most (Err e.fault) does) has

    takes-frames : (c most : ℕ) (answer : Answer) (line : PlainLine) → HasHistory line → TakesFrames most (visit_at c now) line s answer t → Has t
    takes-frames c most (Ok o) line history has = takes-line c _ (λ after does. sends-for c s.history t.history line after was.0 history most (Ok o) does) has
    takes-frames c most (Err e) line history (is, has) = takes-line c _ (λ after does. sends-for c s.history t.history line after was.0 history most (Err e.fault) does) has

    probes : (c : ℕ) (answer : Answer) (line : PlainLine) → HasHistory line → Probes c line s answer t → Has t
    probes c answer line history (inl does) = refused _ answer does
    probes c answer line history (inr (on, speaks, does)) = by on does
      where
        by : (on : Transport) → ProbesOn on c line s answer t → Has t
        by Polling (said, does) = advances-line c line (Probed ∷ []) history does
        by Probing does = refused _ answer does
        by Socket does = refused _ answer does

    ends-probe : (end : Call) (c : ℕ) (answer : Answer) (line : PlainLine) → HasHistory line → EndsProbe end c line s answer t → Has t
    ends-probe end c answer line history (on, speaks, does) = by on does
      where
        by : (on : Transport) → EndsProbeOn on end c line s answer t → Has t
        by Polling does = refused _ answer does
        by Probing (said, does) = advances-line c line (end ∷ []) history does
        by Socket does = refused _ answer does

    loses : (c : ℕ) (answer : Answer) → Loses (visit_at c now) s answer t → Has t
    loses c (Ok (outcome.Lost true done)) (nothing, makes, lost) = (made (what.Parked c) refl s.history t.history makes was.0, lines-lost c s t lost was.1)
    loses c (Ok (outcome.Lost false done)) (nothing, refusal, makes, lost) = (made (what.Closed c) refl s.history t.history makes was.0, lines-lost c s t lost was.1)
    loses c (Ok _) never = absurd never
    loses c (Err e) ((is, same, lines), fails) = (same-history s.history t.history same was.0, lines-kept s t lines was.1)

    ticks-on : (d : Due) (c : ℕ) (answer : Answer) (line : PlainLine) → HasHistory line → TicksOn d (visit_at c now) line s answer t → Has t
    ticks-on due.Nothing c answer line history (said, does) = advances-line c line (Ticked now due.Nothing ∷ []) history does
    ticks-on due.SendPing c answer line history (said, does) = advances-line c line (Ticked now due.SendPing ∷ []) history does
    ticks-on due.PingTimeout c (Ok o) line history (said, does, lost) = (parks c s.history t.history does was.0, lines-lost c s t lost was.1)
    ticks-on due.PingTimeout c (Err e) line history (said, fails, does) = advances-line c line (Ticked now due.PingTimeout ∷ []) history does
    ticks-on due.ConnectTimeout c (Ok o) line history (said, makes, lost) = (made (what.Closed c) refl s.history t.history makes was.0, lines-lost c s t lost was.1)
    ticks-on due.ConnectTimeout c (Err e) line history (said, stops, does) = advances-line c line (Ticked now due.ConnectTimeout ∷ []) history does

    ticks : (c : ℕ) (answer : Answer) (line : PlainLine) → HasHistory line → Ticks (visit_at c now) line s answer t → Has t
    ticks c answer line history (d, is, does) = ticks-on d c answer line history does

    sweeps : (answer : Answer) → Sweeps now s answer t → Has t
    sweeps (Ok (outcome.Swept dropped)) (makes, drops, lines) = (made what.Swept refl s.history t.history makes was.0, lines-kept s t lines was.1)
    sweeps (Ok _) never = absurd never
    sweeps (Err e) (stops, (is, same, lines)) = (same-history s.history t.history same was.0, lines-kept s t lines was.1)

    -- ---- packets

    module _ (policy : Policy) (ids left : ℕ → ℕ) (c : ℕ) (Came : (space payload : List ℕ) → Type 0) (lets : KeptWhenLetIn Is policy c now Came) where
      keeps-open : (done : PlainDone) (line : PlainLine) → HasHistory line → KeepsWhileOpen c done line s t → HaveHistories t
      keeps-open done line history does = on done.closed does
        where
          on : (o : Option Cause) → elim o as (λ (o : Option Cause). Type 0) [ Some why ↦ LosesLine c s t | None ↦ HasLine c (λ after. after ≡ line) s t ] → HaveHistories t
          on (Some why) lost = lines-lost c s t lost was.1
          on None has = lines-has c _ s t (λ after same. subst HasHistory (sym same) history) has was.1

      works-on : (packets : List Packet) (answer : Answer) (line : PlainLine) → HasHistory line → AllByRecursion (IsBrought Came) packets → WorksOn policy (visit_at c now) packets line (with_ids s ids) answer (with_ids t left) → Has t
      works-on packets (Ok (outcome.Done done)) line history brought (m, run, said, there, keeps, drawn) =
          let after = all-packets Is quiet policy c now Came lets packets (course (opening s.history line) ids) m brought run (was.0, history) in
          (same-history m.scene.history t.history there after.0, keeps-open m.scene.done m.scene.line after.1 keeps)
      works-on packets (Ok _) line history brought never = absurd never
      works-on packets (Err e) line history brought (m, breaks, there, has, drawn) =
          let after = broken-packets Is quiet policy c now Came lets packets (course (opening s.history line) ids) e m brought breaks (was.0, history) in
          (same-history m.scene.history t.history there after.0, lines-has c _ s t (λ line same. subst HasHistory (sym same) after.1) has was.1)

      posts : (body : List ℕ) (answer : Answer) (line : PlainLine) → HasHistory line → ((packets : List Packet) → Payload packets body → AllByRecursion (IsBrought Came) packets)
          → Posts policy (visit_at c now) body line (with_ids s ids) answer (with_ids t left) → Has t
      posts body answer line history brings (inl (on, (does, drawn))) = refused _ answer does
      posts body answer line history brings (inr (polls, inl (does, drawn))) = refused _ answer does
      posts body answer line history brings (inr (polls, inr (inl (packets, payload, does)))) = works-on packets answer line history (brings packets payload) does
      posts body answer line history brings (inr (polls, inr (inr (fault, faulty, (does, drawn))))) = closes-unread c _ answer does

      posts-for : (body : List ℕ) (answer : Answer) → ((packets : List Packet) → Payload packets body → AllByRecursion (IsBrought Came) packets) → PostsFor policy (visit_at c now) body (with_ids s ids) answer (with_ids t left) → Has t
      posts-for body answer brings does = on (s.lines c) refl does
        where
          on : (o : Option PlainLine) → s.lines c ≡ o → elim o as (λ (o : Option PlainLine). Type 0) [ None ↦ Refused UnknownClient s answer t × (left ≡ ids) | Some line ↦ Posts policy (visit_at c now) body line (with_ids s ids) answer (with_ids t left) ] → Has t
          on None none (does, drawn) = refused UnknownClient answer does
          on (Some line) is does = posts body answer line (was.1 c line is) brings does

      reads-frame : (frame : WsFrame) (answer : Answer) (line : PlainLine) → HasHistory line → ((packet : Packet) → IsFrameOf packet frame → IsBrought Came packet)
          → ReadsFrame policy (visit_at c now) frame line (with_ids s ids) answer (with_ids t left) → Has t
      reads-frame frame answer line history brings (inl (does, drawn)) = refused _ answer does
      reads-frame frame answer line history brings (inr (inl (packet, framed, does))) = works-on (packet ∷ []) answer line history (brings packet framed, tt) does
      reads-frame frame answer line history brings (inr (inr (fault, faulty, (does, drawn)))) = closes-unread c _ answer does

      receives-one : (frame : WsFrame) (answer : Answer) (line : PlainLine) → HasHistory line → ((packet : Packet) → IsFrameOf packet frame → IsBrought Came packet)
          → ReceivesOne policy (visit_at c now) frame line (with_ids s ids) answer (with_ids t left) → Has t
      receives-one frame answer line history brings does = by (is_too_long frame) does
        where
          by : (b : Bool) → elim b as (λ (b : Bool). Type 0) [ true ↦ ClosesUnread cause.TooLong (visit_at c now) s answer t × (left ≡ ids) | false ↦ ReadsFrame policy (visit_at c now) frame line (with_ids s ids) answer (with_ids t left) ] → Has t
          by true (does, drawn) = closes-unread c cause.TooLong answer does
          by false does = reads-frame frame answer line history brings does

      receives-for : (frame : WsFrame) (answer : Answer) → ((packet : Packet) → IsFrameOf packet frame → IsBrought Came packet) → ReceivesFor policy (visit_at c now) frame (with_ids s ids) answer (with_ids t left) → Has t
      receives-for frame answer brings does = on (s.lines c) refl does
        where
          on : (o : Option PlainLine) → s.lines c ≡ o → elim o as (λ (o : Option PlainLine). Type 0) [ None ↦ Refused UnknownClient s answer t × (left ≡ ids) | Some line ↦ Receives policy (visit_at c now) frame line (with_ids s ids) answer (with_ids t left) ] → Has t
          on None none (does, drawn) = refused UnknownClient answer does
          on (Some line) is (inl (polls, (does, drawn))) = refused _ answer does
          on (Some line) is (inr (speaks, does)) = receives-one frame answer line (was.1 c line is) brings does

-- ---- an event

module _ (Is : History → Type 0) (quiet : KeptWhileQuiet Is) (policy : Policy) (happened : Event) (now : ℕ)
    (lets : (c : ℕ) → KeptWhenLetIn Is policy c now (Brings happened c)) where
  abbrev Holds : Holding → Type 0
  Holds s = Is s.history × HaveHistories s

  module _ (s t : Holding) (was : Holds s) (told : Handshake) (answer : Answer) (ids left : ℕ → ℕ) where
    posted : (c : ℕ) (body : List ℕ) → happened ≡ event.Post c body → (packets : List Packet) → Payload packets body
        → AllByRecursion (IsBrought (Brings happened c)) packets
    posted c body is packets spelled =
        recursion_from_All (IsBrought (Brings happened c)) packets (All-weaker (Contains packets) (IsBrought (Brings happened c)) (λ packet inside space payload connect.
        subst (λ (e : Event). Brings e c space payload) (sym is) (refl, packets, spelled, packet, inside, connect)) packets (All-contains_itself packets))

    framed : (c : ℕ) (frame : WsFrame) → happened ≡ event.Frame c frame → (packet : Packet) → IsFrameOf packet frame
        → IsBrought (Brings happened c) packet
    framed c frame is packet spelled space payload connect = subst (λ (e : Event). Brings e c space payload) (sym is) (refl, packet, spelled, connect)

    row-keeps : (e : Event) → happened ≡ e → Row policy told now e (with_ids s ids) answer (with_ids t left) → Holds t
    row-keeps (event.Opened socket) is (does, drawn) = opens Is quiet now s t was told socket (ids 0) answer does
    row-keeps (event.Post c body) is does = posts-for Is quiet now s t was policy ids left c (Brings happened c) (lets c) body answer (posted c body is) does
    row-keeps (event.Frame c frame) is does = receives-for Is quiet now s t was policy ids left c (Brings happened c) (lets c) frame answer (framed c frame is) does
    row-keeps (event.PollBegin c) is (does, drawn) = for-client Is quiet now s t was c (Begins (visit_at c now)) answer (λ line history row. begins Is quiet now s t was c answer line history row) does
    row-keeps (event.PollEnd c) is (does, drawn) = for-client Is quiet now s t was c (Ends c) answer (λ line history row. ends Is quiet now s t was c answer line history row) does
    row-keeps (event.PollTake c most) is (does, drawn) = for-client Is quiet now s t was c (Takes most (visit_at c now)) answer (λ line history row. takes Is quiet now s t was c most answer line history row) does
    row-keeps (event.FrameTake c most) is (does, drawn) =
        for-client Is quiet now s t was c (TakesFrames most (visit_at c now)) answer (λ line history row. takes-frames Is quiet now s t was c most answer line history row) does
    row-keeps (event.Probe c) is (does, drawn) = for-client Is quiet now s t was c (Probes c) answer (λ line history row. probes Is quiet now s t was c answer line history row) does
    row-keeps (event.Upgraded c) is (does, drawn) = for-client Is quiet now s t was c (EndsProbe Upgraded c) answer (λ line history row. ends-probe Is quiet now s t was Upgraded c answer line history row) does
    row-keeps (event.ProbeLost c) is (does, drawn) = for-client Is quiet now s t was c (EndsProbe ProbeLost c) answer (λ line history row. ends-probe Is quiet now s t was ProbeLost c answer line history row) does
    row-keeps (event.TransportLost c) is (does, drawn) = for-client Is quiet now s t was c (λ line. Loses (visit_at c now)) answer (λ line history row. loses Is quiet now s t was c answer row) does
    row-keeps (event.Tick c) is (does, drawn) = for-client Is quiet now s t was c (Ticks (visit_at c now)) answer (λ line history row. ticks Is quiet now s t was c answer line history row) does
    row-keeps event.Sweep is (does, drawn) = sweeps Is quiet now s t was answer does

  -- what steps keep that attach no socket, or one that was let in, an event keeps
  pub does-keeps : (s t : Holding) → Holds s → (told : Handshake) (answer : Answer) (ids left : ℕ → ℕ) → Does policy told now happened (with_ids s ids) answer (with_ids t left) → Holds t
  does-keeps s t was told answer ids left (h, said, row, heard) =
      let after = row-keeps s (record t { history = h }) was told said ids left happened refl row in
      (hears-after Is quiet now policy (client_of happened) (ended_since s.history h) h said answer t.history heard after.0, after.1)
